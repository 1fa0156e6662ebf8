use Rattle.std.proofs.Common.{◌≡◌, true, rules}
use Rattle.archive_model.specs.BearerTokens.{is_token}
use Rattle.archive_requests.proofs.BearerLemmas.{IsUtf8-token}
use Rattle.archive_requests.proofs.bearer.if_token.Goals as goal

pub returns-in-Err : goal.returns-in-Err
returns-in-Err c =
    let token : is_token c.args.bytes.now ≡ true = search rules in
    absurd (c.in-Err.ensures.cases.0 (IsUtf8-token _ token))
