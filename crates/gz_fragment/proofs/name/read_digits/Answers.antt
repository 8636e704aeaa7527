use Rattle.std.proofs.Common.{sym, ◌∙◌}
use Rattle.gz_fragment.proofs.Digits.{sized, decoded, bytes_from}
use Rattle.gz_fragment.proofs.name.read_digits.Goals as goal

pub returns-in-Ok : goal.returns-in-Ok
returns-in-Ok c =
    let is = sym (sized c.args.text.now _ c.requires) ∙ decoded _ _ c.decode_to_slice.new.out _ c.decode_to_slice.ensures.value c.in-Ok.is in
    sym (bytes_from c.args.text.now _ (sym c.are_lower_digits.ensures ∙ c.if-not-are_lower_digits.false) is)
