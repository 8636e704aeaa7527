use Rattle.std.proofs.Common.{◌-◌, length, take, drop, ap, ◌∙◌}
use Rattle.std.specs.Str.{bytes_eq}
use Rattle.gz_fragment.proofs.Digits.{form_of}
use Rattle.gz_fragment.proofs.name.has_form.Goals as goal

pub returns : goal.returns
returns c =
    c.eq.ensures ∙ ap (bytes_eq (take (length c.args.text.now - 74) (drop 74 c.args.text.now))) c.as_slice.ensures
    ∙ form_of c.args.text.now c.if-text-ne-TEXT.false c.if-text-ne45.false c.if-text-ne45-2.false
