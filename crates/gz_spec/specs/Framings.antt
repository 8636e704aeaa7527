-- What a journal holds, which its labels say.
use Rattle.std.specs.Prelude.{List, [], ◌∷◌, ℕ, if◌then◌else◌, codes}
use Rattle.std.specs.Str.{bytes_eq}
use Rattle.gz_label.specs.Labels.{values_of}
use Rattle.gz_label.specs.declared.label.Label.{Label}
use Rattle.gz_spec.specs.declared.framing.Framing.{Framing}
use Rattle.gz_spec.specs.declared.framing.Framing.TheVariants.{Lines, FixedFrames, RecoveryLog, Bytes}

abbrev pub framing_named : List ℕ → Framing
framing_named text =
    if bytes_eq text (codes "application/x-ndjson") then Lines
    else (if bytes_eq text (codes "application/x-protobuf-fixed") then FixedFrames
    else (if bytes_eq text (codes "application/x-gazette-recoverylog") then RecoveryLog else Bytes))

-- One value names the framing. None, and several, are any bytes.
abbrev pub framing_of : List (List ℕ) → Framing
framing_of [] = Bytes
framing_of (v ∷ []) = framing_named v
framing_of (v ∷ w ∷ vs) = Bytes

abbrev pub framing_in : List Label → Framing
framing_in labels = framing_of (values_of (codes "content-type") labels)
