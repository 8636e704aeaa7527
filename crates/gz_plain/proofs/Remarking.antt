-- The marks that commits leave, and whether a shard keeps its definition.
use Rattle.std.proofs.Common.{◌≡◌, ℕ, zero, suc, ◌+◌, ◌-◌, ◌<◌, ◌≤◌, ◌==◌, List, [], ◌∷◌, length, map, get_or, refl, ap, sym, ◌∙◌, Bool, true, false, ◌&&◌, arith}
use Rattle.std.specs.Str.{bytes_eq}
use Rattle.gz_plain.specs.Cluster.{source_named}
use Rattle.gz_plain.specs.Definitions.{same_names, same_sources}
use Rattle.gz_plain.specs.Seen.{name_of, shard_of, source_of}
use Rattle.gz_plain.specs.Shards.{last_offsets}
use Rattle.gz_promise.specs.Sources.{froms_of, last_of}
use Rattle.gz_plain.specs.declared.cluster.Source as named
use Rattle.gz_plain.specs.declared.reader.Reader.{Reader}
use Rattle.gz_plain.specs.declared.shard.Shard.{Shard}
use Rattle.gz_plain.specs.declared.writer.Writer.{Writer}

-- ---- the last commit

last_at : (froms : List ℕ) (commits : List (List ℕ)) (i : ℕ) (row : List ℕ) → length commits ≡ i + 1 → row ≡ get_or commits i row → row ≡ last_of froms commits
last_at froms [] i row long is = absurd (omega (arith, long))
last_at froms (c ∷ []) zero row long is = is
last_at froms (c ∷ []) (suc i) row long is = absurd (omega (arith, long))
last_at froms (c ∷ d ∷ commits) zero row long is = absurd (omega (arith, long))
last_at froms (c ∷ d ∷ commits) (suc i) row long is = last_at c (d ∷ commits) i row (omega (arith, long)) is

pub last_row : (s : Shard) (row : List ℕ) → (length s.commits.items ≡ 0 → ⊥) → row ≡ get_or s.commits.items (length s.commits.items - 1) row → row ≡ last_offsets (shard_of s)
last_row s row some is =
    last_at (froms_of (map source_of s.readers)) s.commits.items (length s.commits.items - 1) row (one_more (length s.commits.items) some) is
  where
    one_more : (n : ℕ) → (n ≡ 0 → ⊥) → n ≡ (n - 1) + 1
    one_more zero some = absurd (some refl)
    one_more (suc n) some = omega arith

-- ---- lists of other lengths

rest_false : (b rest : Bool) → false ≡ rest → false ≡ (b && rest)
rest_false true rest is = is
rest_false false rest is = refl

pub unlike_sources : (ss : List named.Source) (rs : List Reader) → (length ss ≡ length rs → ⊥) → false ≡ same_sources (map source_named ss) (map source_of rs)
unlike_sources [] [] apart = absurd (apart refl)
unlike_sources [] (r ∷ rs) apart = refl
unlike_sources (s ∷ ss) [] apart = refl
unlike_sources (s ∷ ss) (r ∷ rs) apart =
    rest_false (bytes_eq s.journal r.journal && (s.from == r.from)) (same_sources (map source_named ss) (map source_of rs))
    (unlike_sources ss rs (λ same. apart (ap (λ (n : ℕ). suc n) same)))

pub unlike_names : (names : List (List ℕ)) (ws : List Writer) → (length names ≡ length ws → ⊥) → false ≡ same_names names (map name_of ws)
unlike_names [] [] apart = absurd (apart refl)
unlike_names [] (w ∷ ws) apart = refl
unlike_names (n ∷ names) [] apart = refl
unlike_names (n ∷ names) (w ∷ ws) apart =
    rest_false (bytes_eq n w.journal) (same_names names (map name_of ws)) (unlike_names names ws (λ same. apart (ap (λ (n : ℕ). suc n) same)))
