-- Worked examples of what is withheld. Day 12115 is 2003-03-04, and day 12143 is 2003-04-01.
use Rattle.std.proofs.Common.{◌≡◌, ◌≢◌, ℕ, ℤ, pos, List, [], ◌∷◌, Some, None, true, false, refl, codes}
use Rattle.std.proofs.lemmas.List.Elements.{All-nil, All-cons}
use Rattle.policy_core.specs.declared.access.Standing.TheVariants.{Public}
use Rattle.policy_core.specs.declared.access.Withdrawn.TheVariants.{No, Author, Board}
use Rattle.policy_core.specs.Rules.{withdrawn as if_withdrawn, embargo as if_embargo, Rule, open_rule}
use Rattle.archive_model.specs.Records.{Message, IndexColumns, Archive}
use Rattle.archive_model.specs.Commands.{Command, withdraw, restore, embargo, lift, list_full, done, refused}
use Rattle.archive_model.specs.Machine.{step}
use Rattle.archive_model.specs.Runs.{run}
use Rattle.archive_results.specs.Access.{Ask, ReaderFacts, policy_allows, message_facts, ruling_on, view_of}
use Rattle.archive_results.specs.Promise.{without_message, DeniesWithdrawnBy, DeniesEmbargoed}
use Rattle.archive_results.proofs.HistoryLemmas.{as_if_unsaid}

abbrev soc : List ℕ
soc = codes "soc"

-- arrived on 2003-03-04
abbrev first : Message
first = record {
  list = soc;
  key = codes "k1";
  sender = codes "a@b";
  arrival = pos 1046772000;
  text = codes "One.\n";
  withdrawn = pos 0;
  embargo = None;
}

abbrev second : Message
second = record first { key = codes "k2"; text = codes "Two.\n" }

abbrev archive : Archive
archive = record { lists = soc ∷ []; persons = []; grants = []; messages = first ∷ second ∷ []; index_columns = []; options = []; addresses = [] }

-- what its author withdrew is denied, and what the board withdrew is not
abbrev rules : List Rule
rules = record open_rule { name = codes "author"; allows = false; conditions = if_withdrawn (Author ∷ []) ∷ [] }
    ∷ record open_rule { name = codes "embargo"; allows = false; conditions = if_embargo true ∷ [] }
    ∷ record open_rule { name = codes "all" } ∷ []

abbrev on : ℤ → Ask
on day = record { rules = rules; reader = None; list = soc; day = day }

abbrev the_public : ReaderFacts
the_public = record { standing = Public; address = None }

-- ---- withdrawn by its author, under a policy that names authors alone

denied_by_author : DeniesWithdrawnBy Author (on (pos 12131)) the_public
unfolding ruling_on
denied_by_author marks is other = rw is refl

shown_by_board : policy_allows (on (pos 12131)) the_public (record { arrival = pos 1046772000; withdrawn = Board; embargo_until = None; own = false }) ≡ true
unfolding ruling_on
shown_by_board = refl

-- the board cannot withdraw it anew, and the other is restored in vain
abbrev behind : List Command
behind = withdraw soc (codes "k1") (pos 2) ∷ restore soc (codes "k2") ∷ []

abbrev withdrawn : Archive
withdrawn = (run (step archive (withdraw soc (codes "k1") (pos 1))).0 behind).archive

seen_without_it : view_of withdrawn (on (pos 12131)) ≡ second ∷ []
unfolding run message_facts ruling_on
seen_without_it = refl

-- what the board withdrew instead is seen
seen_of_the_board : view_of (step archive (withdraw soc (codes "k1") (pos 2))).0 (on (pos 12131)) ≡ record first { withdrawn = pos 2 } ∷ second ∷ []
unfolding message_facts ruling_on
seen_of_the_board = refl

never_came : (without_message withdrawn soc (codes "k1")).messages ≡ second ∷ []
unfolding run
never_came = refl

-- ---- held back until 2003-04-01

held_back_before : DeniesEmbargoed (pos 12143) (on (pos 12142)) the_public
unfolding ruling_on
held_back_before marks is other = by_party marks.withdrawn
  where
    by_party : (by : _) → policy_allows (on (pos 12142)) the_public (record marks { withdrawn = by }) ≡ false
    by_party No = rw is refl
    by_party Author = refl
    by_party Board = rw is refl

abbrev held : Archive
held = (run (step archive (embargo soc (codes "k1") (pos 12143))).0 (lift soc (codes "k2") ∷ [])).archive

seen_before : view_of held (on (pos 12142)) ≡ second ∷ []
unfolding run message_facts ruling_on
seen_before = refl

seen_on_the_day : view_of held (on (pos 12143)) ≡ record first { embargo = Some (pos 12143) } ∷ second ∷ []
unfolding run message_facts ruling_on
seen_on_the_day = refl

-- ---- nobody spoke of it

abbrev nothing_filed : IndexColumns
nothing_filed = record { sent = pos 0; month = pos 0; author = [] }

abbrev with_filings : Archive
with_filings = record archive { index_columns = nothing_filed ∷ nothing_filed ∷ [] }

abbrev said : List Command
said = withdraw soc (codes "k1") (pos 1) ∷ embargo soc (codes "k2") (pos 12143) ∷ []

done_is_taken : done ≢ refused list_full
done_is_taken e = absurd cc

as_if_it_was_not_withdrawn : without_message (run with_filings said).archive soc (codes "k1") ≡ (run (without_message with_filings soc (codes "k1")) (embargo soc (codes "k2") (pos 12143) ∷ [])).archive
unfolding run
as_if_it_was_not_withdrawn =
    as_if_unsaid with_filings soc (codes "k1") said refl
    (All-cons (λ reply. reply ≢ refused list_full) done (done ∷ []) done_is_taken
    (All-cons (λ reply. reply ≢ refused list_full) done [] done_is_taken (All-nil (λ reply. reply ≢ refused list_full))))

left_of_it : without_message (run with_filings said).archive soc (codes "k1") ≡ record archive { messages = record second { embargo = Some (pos 12143) } ∷ []; index_columns = nothing_filed ∷ [] }
unfolding run
left_of_it = refl
