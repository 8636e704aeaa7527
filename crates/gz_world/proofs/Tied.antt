-- The journals and shards of a run's world are those that its specifications say, and lawful happenings made them.
use Rattle.std.proofs.Common.{◌≡◌, ℕ, List, [], ◌∷◌, ◌++◌, sym, ap, ◌∙◌, subst, refl, true, Ok}
use Rattle.gz_links.specs.Cycles.{AreRanked}
use Rattle.gz_links.specs.Joins.{join_of}
use Rattle.gz_spec.specs.Valid.{are_specs}
use Rattle.gz_spec.specs.Records.{Specs}
use Rattle.gz_links.proofs.Joining.{join_is_linked, join_is_ranked}
use Rattle.gz_scenario.specs.Lawful.{is_start}
use Rattle.gz_plain.specs.Definitions.{Definition}
use Rattle.gz_plain.specs.Runs.{Event, MayHappen, MayAllHappen, continues, changes, nothing, after_event, after_events}
use Rattle.gz_plain.specs.Shards.{World}
use Rattle.gz_plain.proofs.Promises.{after_more, may_all_more}
use Rattle.gz_world.specs.Starts.{IsSpecified, names_of_journals, new_journals, definitions_of, cluster_start, cluster_with}
use Rattle.gz_world.proofs.Changes.{may_happen, start_whole}
use Rattle.gz_world.proofs.Ready.{cluster_specified, names_joined, shards_continue, with_specified}

pub record IsTied (specs : Specs) (w : World) : Type 0 where
  pub specified : IsSpecified specs w
  pub ranked : (rank : List ℕ → ℕ) × AreRanked rank specs.shards
  -- what happened so far
  pub happened : List Event
  pub may : MayAllHappen happened nothing
  pub reached : w ≡ after_events happened nothing

-- ---- one more happening

-- it may happen, and specifications say what there is then
pub happens : (specs now : Specs) (w : World) (e : Event) → IsTied specs w → MayHappen e w → IsSpecified now (after_event e w) → ((rank : List ℕ → ℕ) × AreRanked rank now.shards)
    → IsTied now (after_event e w)
happens specs now w e t may specified ranked = record {
  specified = specified;
  ranked = ranked;
  happened = t.happened ++ e ∷ [];
  may = may_all_more t.happened e nothing t.may (subst (λ (x : World). MayHappen e x) t.reached may);
  reached = ap (λ (x : World). after_event e x) t.reached ∙ sym (after_more t.happened e nothing);
}

-- ---- the start

none_continued : (ds : List Definition) → continues ds [] ≡ true
none_continued [] = refl
none_continued (d ∷ ds) = refl

pub start_tied : (specs : Specs) → is_start specs ≡ true → IsTied specs (cluster_start specs)
start_tied specs good =
    let whole = start_whole specs good in
    let names = names_of_journals specs.journals in
    let ds = definitions_of specs.shards in
    record {
      specified = cluster_specified specs whole.valid;
      ranked = whole.ranked;
      happened = changes names ds ∷ [];
      may = (may_happen specs names nothing whole.valid whole.linked refl (none_continued ds), tt);
      reached = refl;
    }

-- ---- more specifications

pub with_tied : (specs more all : Specs) (w : World) → IsTied specs w → are_specs more ≡ true → join_of specs more ≡ Ok all → IsTied all (cluster_with specs more all w)
with_tied specs more all w t good is =
    let specified = with_specified specs more all w t.specified good is in
    let names = names_of_journals (new_journals specs more) in
    happens specs all w (changes names (definitions_of all.shards)) t
    (may_happen all names w specified.valid (join_is_linked specs more all is) (names_joined specs more all w t.specified is) (shards_continue specs more all w t.specified is))
    specified (join_is_ranked specs more all t.specified.valid good is)
