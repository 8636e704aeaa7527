use Rattle.std.proofs.Common.{string_bytes}
use Rattle.std.specs.Str.{IsUtf8}
use Rattle.gz_frame.proofs.Texts.{is_lawful}
use Rattle.gz_frame.proofs.message.Message.of.Goals as goal

pub invariant_of-result : goal.invariant_of-result
invariant_of-result c =
    let valid_key : IsUtf8 (string_bytes c.args.key) = rw (← c.as_str-key.ensures.value) c.as_str-key.utf8 in
    let valid_value : IsUtf8 (string_bytes c.args.value) = rw (← c.as_str-value.ensures.value) c.as_str-value.utf8 in
    is_lawful c.args.parts.producer c.args.parts.clock c.args.parts.flags (string_bytes c.args.key) (string_bytes c.args.value) valid_key c.requires.short_key valid_value c.requires.short_value c.requires.known_flags
