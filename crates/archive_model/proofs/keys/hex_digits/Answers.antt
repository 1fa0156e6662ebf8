use Rattle.std.proofs.Common.{rules, ◌≡◌}
use Rattle.hex.specs.Hex.{encode_lower}
use Rattle.archive_model.proofs.KeyLemmas.{is_key-encode_lower}
use Rattle.archive_model.proofs.keys.hex_digits.Goals as goal

pub returns-clause-form : goal.returns-clause-form
returns-clause-form c =
    let value : c.encode_to_slice-written.new.output ≡ encode_lower c.args.bytes.now = search rules in
    rw value (is_key-encode_lower c.args.bytes.now c.told-bytes c.fits-bytes)
