use Rattle.std.proofs.Common.{◌≡◌, ◌==◌, ◌∙◌, ap, sym, refl, List, ℕ, Bool, not, map, length, replicate, Some}
use Rattle.gz_plain.specs.Cluster.{reaches, source_named}
use Rattle.gz_plain.specs.Shards.{Mark}
use Rattle.gz_plain.specs.declared.shard.Shard.{Shard}
use Rattle.gz_plain.proofs.Redefining.{IsRedefined, past_is, redefined_kept, redefined_seen}
use Rattle.gz_plain.proofs.redefine.with_definition.Goals as goal

pub returns-clause-shard : goal.returns-clause-shard
returns-clause-shard c =
    let count : c.len-count.result ≡ length c.args.shard.commits.items = c.len-count.ensures ∙ c.args.shard.commits.ok.0 in
    let has_commits : Bool = not (c.len-count.result == 0) in
    let ms : List Mark = c.as_slice.result.now in
    let row : List ℕ = map (reaches c.args.journals.now has_commits ms) (map source_named c.args.definition.sources.items) in
    let new : Shard = record { id = c.args.shard.id; log = c.args.definition.log; producer = c.args.shard.producer; readers = c.of.result; writers = c.in_ok-writers.writers; app = c.args.definition.app; is_disabled = c.args.definition.is_disabled; past = Some c.new.result; commits = c.in_ok-commits.commits; messages = c.in_ok-all.all.messages; store = c.args.shard.store } in
    redefined_seen c.args.journals.now c.args.definition c.args.shard new has_commits ms
    (record {
      some = ap (λ (n : ℕ). not (n == 0)) count;
      marks = c.as_slice.ensures.value ∙ c.in_ok-marks.ensures;
      id = refl;
      log = refl;
      producer = refl;
      readers = c.of.ensures ∙ c.in_ok-all.ensures.readers;
      writers = c.in_ok-writers.ensures;
      app = refl;
      is_disabled = refl;
      past = past_is c.new.result c.len-count.result (length c.args.shard.commits.items) c.in_ok-marks.marks.items ms c.new.ensures count (sym c.as_slice.ensures.value);
      commits = c.in_ok-commits.ensures ∙ ap (λ (tos : List ℕ). replicate c.len-count.result tos) (c.as_slice-2.ensures.value ∙ c.in_ok-all.ensures.offsets) ∙ ap (λ (n : ℕ). replicate n row) count;
      messages = c.in_ok-all.ensures.messages;
      store = refl;
    })

pub returns-clause-kept : goal.returns-clause-kept
returns-clause-kept c =
    let count : c.len-count.result ≡ length c.args.shard.commits.items = c.len-count.ensures ∙ c.args.shard.commits.ok.0 in
    let has_commits : Bool = not (c.len-count.result == 0) in
    let ms : List Mark = c.as_slice.result.now in
    let row : List ℕ = map (reaches c.args.journals.now has_commits ms) (map source_named c.args.definition.sources.items) in
    let new : Shard = record { id = c.args.shard.id; log = c.args.definition.log; producer = c.args.shard.producer; readers = c.of.result; writers = c.in_ok-writers.writers; app = c.args.definition.app; is_disabled = c.args.definition.is_disabled; past = Some c.new.result; commits = c.in_ok-commits.commits; messages = c.in_ok-all.all.messages; store = c.args.shard.store } in
    redefined_kept c.args.journals.now c.args.definition c.args.shard new has_commits ms c.requires.offsets c.requires.sources c.requires.outputs
    (record {
      some = ap (λ (n : ℕ). not (n == 0)) count;
      marks = c.as_slice.ensures.value ∙ c.in_ok-marks.ensures;
      id = refl;
      log = refl;
      producer = refl;
      readers = c.of.ensures ∙ c.in_ok-all.ensures.readers;
      writers = c.in_ok-writers.ensures;
      app = refl;
      is_disabled = refl;
      past = past_is c.new.result c.len-count.result (length c.args.shard.commits.items) c.in_ok-marks.marks.items ms c.new.ensures count (sym c.as_slice.ensures.value);
      commits = c.in_ok-commits.ensures ∙ ap (λ (tos : List ℕ). replicate c.len-count.result tos) (c.as_slice-2.ensures.value ∙ c.in_ok-all.ensures.offsets) ∙ ap (λ (n : ℕ). replicate n row) count;
      messages = c.in_ok-all.ensures.messages;
      store = refl;
    })
