-- The messages of a publish, of which there is at least one.
use Rattle.std.proofs.Common.{◌≡◌, ◌==◌, ℕ, List, [], ◌∷◌, length, Bool, false, Ok}
use Rattle.serde_json.specs.View.{items_view}
use Rattle.serde_json.specs.declared.value.Value.{Value}
use Rattle.gz_scenario.specs.Events.{drafts_from, some_drafts}
use Rattle.gz_scenario.specs.declared.event.Draft.{Draft}

pub some_read : (path : List ℕ) (values : List Value) (ms : List Draft) (none : Bool) → none ≡ (length values == 0)
    → none ≡ false → drafts_from path 0 (items_view values) ≡ Ok ms → some_drafts path (items_view values) ≡ Ok ms
some_read path [] ms none test some is = absurd (cc)
some_read path (v ∷ vs) ms none test some is = is
