-- What the code's tokens stand for.
use Rattle.mail_core.specs.declared.tokens.Token.{Token}
use Rattle.mail_core.specs.declared.tokens.Token.TheVariants.{Digits, Letters, Sign}
use Rattle.mail_core.specs.DateTokens.Token.{digits, letters, sign}
use Rattle.mail_core.specs.DateTokens as spec

abbrev pub spec_token_of : Token → spec.Token
spec_token_of (Digits d) = digits d.now
spec_token_of (Letters w) = letters w.now
spec_token_of (Sign b) = sign b
