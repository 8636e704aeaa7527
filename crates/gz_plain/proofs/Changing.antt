-- The shards of new definitions, one after another.
use Rattle.std.proofs.Common.{◌≡◌, ℕ, suc, ◌+◌, ◌<◌, ◌≤◌, ◌^◌, List, [], ◌∷◌, ◌++◌, length, map, refl, ap, sym, ◌∙◌, subst, append_assoc, Bool, true, false, cond, Option, Some, None, arith}
use Rattle.std.proofs.lemmas.List.{map-append}
use Rattle.std.specs.Str.{bytes_eq}
use Rattle.gz_plain.specs.Cluster.{AreLinked, AreSmall, behind_lead, definition_of, definitions_of, lead_of}
use Rattle.gz_plain.specs.Definitions.{Definition, continued, fresh, redefined}
use Rattle.gz_promise.specs.Journals.{Journal}
use Rattle.gz_plain.specs.Running.{AllKept, IsKept}
use Rattle.gz_plain.specs.Seen.{shard_of, shards_of}
use Rattle.gz_plain.specs.Shards as shards
use Rattle.gz_plain.specs.declared.cluster.Definition as declared
use Rattle.gz_plain.specs.declared.shard.Shard.{Shard}

-- ---- the next shard

-- what the next definition makes of the shards
abbrev pub IsNext : List Journal → Definition → ℕ → List Shard → ℕ → List Shard → Shard → Type 0
IsNext js d number before next after s =
    (ds : List Definition) → shard_of s ∷ redefined js next ds (shards_of after) ≡ redefined js number (d ∷ ds) (shards_of before)

-- ---- one shard after another

all_kept_more : (js : List Journal) (ss : List Shard) (s : Shard) → AllKept js ss → IsKept js s → AllKept js (ss ++ s ∷ [])
all_kept_more js [] s a k = (k, tt)
all_kept_more js (x ∷ xs) s a k = (a.0, all_kept_more js xs s a.1 k)

-- how far a change is: the shards behind it, the earlier ones ahead, and the definitions that are left
pub record IsChanging (js : List Journal) (all : List declared.Definition) (start : List Shard) (after earlier : List Shard) (number : ℕ) (rest : List declared.Definition) : Type 0 where
  pub shards : shards_of after ++ redefined js number (definitions_of rest) (shards_of earlier) ≡ redefined js (1 + length start) (definitions_of all) (shards_of start)
  pub done : AllKept js after
  pub ahead : AllKept js earlier
  pub small : AreSmall rest
  pub linked : AreLinked js (definitions_of rest)
  pub few : number + length rest ≤ 2 ^ 40

pub change_turn : (js : List Journal) (all : List declared.Definition) (start after after2 earlier earlier2 : List Shard) (number number2 : ℕ) (rest rest2 : List declared.Definition) (d : declared.Definition) (s : Shard)
    → rest ≡ d ∷ rest2 → after2 ≡ after ++ s ∷ [] → IsNext js (definition_of d) number earlier number2 earlier2 s → IsKept js s → AllKept js earlier2 → number2 ≤ number + 1
    → IsChanging js all start after earlier number rest → IsChanging js all start after2 earlier2 number2 rest2
change_turn js all start after after2 earlier earlier2 number number2 rest rest2 d s next pushed is kept ahead count inv =
    let small : AreSmall (d ∷ rest2) = subst (λ (ds : List declared.Definition). AreSmall ds) next inv.small in
    let linked : AreLinked js (definitions_of (d ∷ rest2)) = subst (λ (ds : List declared.Definition). AreLinked js (definitions_of ds)) next inv.linked in
    let long : length rest ≡ length rest2 + 1 = ap (λ (ds : List declared.Definition). length ds) next ∙ omega arith in
    record {
      shards = ap (λ (xs : List Shard). shards_of xs ++ redefined js number2 (definitions_of rest2) (shards_of earlier2)) pushed
          ∙ ap (λ (xs : List shards.Shard). xs ++ redefined js number2 (definitions_of rest2) (shards_of earlier2)) (map-append shard_of after (s ∷ []))
          ∙ append_assoc (shards_of after) (shard_of s ∷ []) (redefined js number2 (definitions_of rest2) (shards_of earlier2))
          ∙ ap (λ (xs : List shards.Shard). shards_of after ++ xs) (is (definitions_of rest2))
          ∙ ap (λ (ds : List declared.Definition). shards_of after ++ redefined js number (definitions_of ds) (shards_of earlier)) (sym next)
          ∙ inv.shards;
      done = subst (λ (xs : List Shard). AllKept js xs) (sym pushed) (all_kept_more js after s inv.done kept);
      ahead = ahead;
      small = small.1;
      linked = linked.1;
      few = omega (arith, inv.few, long, count);
    }
