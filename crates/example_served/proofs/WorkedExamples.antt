-- Worked examples: what the words of three and of four commands order, as `example_served` gives them.
use Rattle.std.proofs.Common.{ℕ, List, [], ◌∷◌, pos, Some, inl, refl, codes}
use Rattle.civil_time.specs.Calendar.{days_before_year, days_in_first_months}
use Rattle.policy_core.specs.declared.access.WithdrawnBy.TheVariants.{Author}
use Rattle.archive_usage.proofs.OnLiterals.{archive_on_literals}
use Rattle.archive_args.specs.Orders.{number_up_to}
use Rattle.example_served.specs.Publishing.{AreCommandLinesOf, Publishing}
use Rattle.example_served.specs.Restarting.{AreRestartedCommandLinesOf, RestartedPublishing}

-- 12131 is 20 March 2003.
two_peers : Publishing
two_peers = record {
  file = codes "archive.db";
  list = codes "soc";
  mbox = codes "two.mbox";
  key = codes "d41bdfeadb4b458370ddcfa1a3a8aa91197973a0a547288c06ee2a2ae4dbf327";
  by = Author;
  policy = codes "hiding.toml";
  day = Some (pos 12131);
  port = 8080;
  count = 2;
}

abbrev import_words : List (List ℕ)
import_words = codes "import" ∷ codes "--db" ∷ codes "archive.db" ∷ codes "soc" ∷ codes "two.mbox" ∷ []

abbrev withdrawal_words : List (List ℕ)
withdrawal_words =
    codes "withdraw" ∷ codes "--db" ∷ codes "archive.db" ∷ codes "soc" ∷ codes "d41bdfeadb4b458370ddcfa1a3a8aa91197973a0a547288c06ee2a2ae4dbf327" ∷ codes "author" ∷ []

abbrev service_words : List (List ℕ)
service_words = codes "serve" ∷ codes "--db" ∷ codes "archive.db" ∷ codes "--policy" ∷ codes "hiding.toml" ∷ codes "--day" ∷ codes "2003-03-20"
    ∷ codes "--port" ∷ codes "8080" ∷ codes "--count" ∷ codes "2" ∷ []

in_words : AreCommandLinesOf import_words withdrawal_words service_words two_peers
unfolding archive_on_literals days_before_year days_in_first_months number_up_to two_peers
in_words = record { imports = (inl refl, refl); withdraws = (inl refl, refl); serves = (inl refl, refl) }

-- on the next day and on another port, three more
three_more : RestartedPublishing
three_more = record { publishing = two_peers; policy = codes "hiding.toml"; day = Some (pos 12132); port = 8081; count = 3 }

restarted_in_words : AreRestartedCommandLinesOf import_words withdrawal_words service_words
    (codes "serve" ∷ codes "--db" ∷ codes "archive.db" ∷ codes "--policy" ∷ codes "hiding.toml" ∷ codes "--day" ∷ codes "2003-03-21"
    ∷ codes "--port" ∷ codes "8081" ∷ codes "--count" ∷ codes "3" ∷ [])
    three_more
unfolding archive_on_literals days_before_year days_in_first_months number_up_to two_peers three_more
restarted_in_words = record { publish = in_words; serves_again = (inl refl, refl) }
