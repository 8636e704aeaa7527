-- Shards and members that are read are valid, and so are the lists of a cluster.
use Rattle.std.proofs.Common.{◌≡◌, ℕ, suc, ◌+◌, ◌&&◌, ◌^◌, List, [], ◌∷◌, ◌++◌, map, length, refl, sym, ap, subst, ◌∙◌, cond, Bool, true, false, not, nat_le, nat_eq, Result, Ok, Err, Option, Some, None, arith}
use Rattle.std.specs.Prelude.{codes}
use Rattle.std.specs.List.{list_all}
use Rattle.std.proofs.lemmas.Grind.{common_steps}
use Rattle.serde_json.specs.Data.{Data, Items, no_items, item}
use Rattle.serde_json.specs.Find.{get, as_str}
use Rattle.gz_model.specs.Steps.{◌>>=◌}
use Rattle.gz_label.specs.Labels.{is_label_set, values_of}
use Rattle.gz_label.specs.declared.label.Label.{Label}
use Rattle.gz_fields.specs.declared.error.FieldError.{FieldError}
use Rattle.gz_fields.specs.declared.error.FieldError.TheVariants.{BadField, BadName, BadNumber, Twice}
use Rattle.gz_app.specs.declared.app.AppKind.{AppKind}
use Rattle.gz_app.specs.declared.app.AppKind.TheVariants.{Count, Relay, Latest}
use Rattle.gz_spec.specs.Limits.{max_journals, max_shards, max_members, max_limit}
use Rattle.gz_spec.specs.Records.{JournalSpec, SourceSpec, ShardSpec, MemberSpec, Specs}
use Rattle.gz_fields.specs.Paths.{below, at_place}
use Rattle.gz_fields.specs.Names.{is_id, is_journal_name}
use Rattle.gz_spec.specs.Reserved.{is_reserved, is_hint_prefix}
use Rattle.gz_fields.specs.Form.{value_of, found, has_only, named, name_at, name_if, name_or, number_or, number_at, flag_or, items_at, items_or_none, is_between}
use Rattle.gz_fields.specs.Lists.{count, no_more_than, is_used, unused, each}
use Rattle.gz_spec.specs.Labels.{labels_at}
use Rattle.gz_spec.specs.Journals.{journal_members, next_journal}
use Rattle.gz_spec.specs.Shards.{source_members, next_source, journal_named, not_empty, sources_at, app_of, outputs_fit, labels_fit, shard_members, shard_with, shard_at, next_shard}
use Rattle.gz_spec.specs.Members.{member_names, member_with, not_reserved, next_member}
use Rattle.gz_spec.specs.Specs.{specs_members, name_of_journal, id_of_shard, id_of_member, journals_in, shards_in, members_in, part_in, part_of}
use Rattle.gz_spec.specs.Valid.{are_fresh, is_journal, is_source, app_takes, are_shard_labels, are_sources, is_shard, is_member, are_journals, are_shards, are_members, are_specs}
use Rattle.gz_fields.proofs.Readable.{step, same_ok, chosen, named_good, name_good, number_good, number_or_good}
use Rattle.gz_spec.proofs.Readable.{labels_good, journal_with_good}

-- ---- steps

-- what is refused where a test holds was passed where it fails
pub passed : (t : Bool) (e : FieldError) (u : Unit {0}) → (cond t (Err e) (Ok tt)) ≡ Ok u → t ≡ false
passed true e u is = absurd (cc)
passed false e u is = refl

unused_good : (path : List ℕ) (used : List (List ℕ)) (name : List ℕ) (u : Unit {0}) → unused path used name ≡ Ok u
    → is_used used name ≡ false
unused_good path used name u is = passed (is_used used name) (Twice path) u is

pub few_good : (most : ℕ) (path : List ℕ) (n : ℕ) (u : Unit {0}) → no_more_than most path n ≡ Ok u
    → nat_le n most ≡ true
few_good most path n u is = (chosen (nat_le n most) tt u (BadNumber path) is).0

not_zero : (n : ℕ) → nat_eq n 0 ≡ false → nat_le 1 n ≡ true
not_zero n some = grind (arith, common_steps)

some_good : (path : List ℕ) (n : ℕ) (u : Unit {0}) → not_empty path n ≡ Ok u → nat_le 1 n ≡ true
some_good path n u is = not_zero n (passed (nat_eq n 0) (BadField path) u is)

pub both : (a b : Bool) → a ≡ true → b ≡ true → (a && b) ≡ true
both a b f g = rw (f, g) refl

pub fresh_one : (used : Bool) → used ≡ false → not used ≡ true
fresh_one used is = rw is refl

-- ---- lists

-- as many as are read, each good, and no two of one name
record AreRead {A : Type 0} (name_of : A → List ℕ) (good : A → Bool) (used : List (List ℕ)) (n : ℕ)
    (xs : List A) : Type 0 where
  many : length xs ≡ n
  all : list_all good xs ≡ true
  fresh : are_fresh name_of used xs ≡ true

each_good : {A : Type 0} (read : List ℕ → List (List ℕ) → Data → Result A FieldError) (name_of : A → List ℕ) (good : A → Bool)
    → ((path : List ℕ) (used : List (List ℕ)) (d : Data) (a : A) → read path used d ≡ Ok a → (good a ≡ true) ×
    (is_used used (name_of a) ≡ false))
    → (ds : Items) (path : List ℕ) (i : ℕ) (used : List (List ℕ)) (xs : List A)
    → each read name_of path i used ds ≡ Ok xs → AreRead name_of good used (count ds) xs
each_good {A} read name_of good one no_items path i used xs is =
    let P : List A → Type 0 = λ ys. AreRead name_of good used 0 ys in
    subst P (same_ok [] xs is) (record { many = refl; all = refl; fresh = refl })
each_good {A} read name_of good one (item d ds) path i used xs is =
    let r = step (read (at_place path i) used d)
    (λ a. each read name_of path (i + 1) (used ++ name_of a ∷ []) ds >>= λ rest. Ok (a ∷ rest)) xs is in
    let s = step (each read name_of path (i + 1) (used ++ name_of r.0 ∷ []) ds) (λ rest. Ok (r.0 ∷ rest)) xs r.2 in
    let here = one (at_place path i) used d r.0 r.1 in
    let more = each_good read name_of good one ds path (i + 1) (used ++ name_of r.0 ∷ []) s.0 s.1 in
    let P : List A → Type 0 = λ ys. AreRead name_of good used (suc (count ds)) ys in
    subst P (same_ok (r.0 ∷ s.0) xs s.2) (record {
      many = ap (λ (n : ℕ). suc n) more.many;
      all = both (good r.0) (list_all good s.0) here.0 more.all;
      fresh = both (not (is_used used (name_of r.0))) (are_fresh name_of (used ++ name_of r.0 ∷ []) s.0)
          (fresh_one (is_used used (name_of r.0)) here.1) more.fresh;
    })

-- ---- shards

source_good : (path : List ℕ) (used : List (List ℕ)) (d : Data) (s : SourceSpec) → next_source path used d ≡ Ok s
    → (is_source s ≡ true) × (is_used used s.journal ≡ false)
unfolding next_source
source_good path used d s is =
    let h = step (has_only path source_members d) _ s is in
    let j = step (name_at is_journal_name path (codes "journal") d) _ s h.2 in
    let u = step (unused (below path (codes "journal")) used j.0) _ s j.2 in
    let o = step (number_or 0 0 (2 ^ 62) path (codes "min_offset") d) _ s u.2 in
    let P : SourceSpec → Type 0 = λ t. (is_source t ≡ true) × (is_used used t.journal ≡ false) in
    subst P (same_ok _ s o.2) (
      both (is_journal_name j.0) (is_between 0 (2 ^ 62) o.0) (name_good is_journal_name path (codes "journal") j.0 d j.1)
          (number_or_good 0 0 (2 ^ 62) (below path (codes "min_offset")) (get (codes "min_offset") d) o.0 refl o.1),
      unused_good (below path (codes "journal")) used j.0 u.0 u.1,
    )

sources_good : (path : List ℕ) (d : Data) (ss : List SourceSpec) → sources_at path d ≡ Ok ss → are_sources ss ≡ true
unfolding sources_at
sources_good path d ss is =
    let p = below path (codes "sources") in
    let items = step (items_at path (codes "sources") d) _ ss is in
    let some = step (not_empty p (count items.0)) _ ss items.2 in
    let few = step (no_more_than 16 p (count items.0)) _ ss some.2 in
    let read = each_good next_source journal_named is_source source_good items.0 p 0 [] ss few.2 in
    let P : ℕ → Type 0 = λ n. is_between 1 16 n ≡ true in
    let many : is_between 1 16 (length ss) ≡ true =
    subst P (sym read.many) (both (nat_le 1 (count items.0)) (nat_le (count items.0) 16)
    (some_good p (count items.0) some.0 some.1) (few_good 16 p (count items.0) few.0 few.1)) in
    both (is_between 1 16 (length ss)) _ many
    (both (list_all is_source ss) (are_fresh journal_named [] ss) read.all read.fresh)

several_good : (path : List ℕ) (n : ℕ) (u : Unit {0}) → (not_empty path n >>= λ _. no_more_than 8 path n) ≡ Ok u
    → is_between 1 8 n ≡ true
several_good path n u is =
    let s = step (not_empty path n) (λ _. no_more_than 8 path n) u is in
    both (nat_le 1 n) (nat_le n 8) (some_good path n s.0 s.1) (few_good 8 path n u s.2)

outputs_good : (path : List ℕ) (n : ℕ) (app : AppKind) (u : Unit {0}) → outputs_fit path n app ≡ Ok u
    → app_takes n (Some app) ≡ true
outputs_good path n Count u is = several_good path n u is
outputs_good path n Relay u is = several_good path n u is
outputs_good path n Latest u is = (chosen (nat_eq n 0) tt u (BadField path) is).0

app_good : (path : List ℕ) (n : ℕ) (app : Option AppKind) (u : Unit {0})
    → (found path app >>= λ a. outputs_fit path n a) ≡ Ok u → app_takes n app ≡ true
app_good path n None u is = absurd (cc)
app_good path n (Some app) u is = outputs_good path n app u is

shard_labels_good : (path : List ℕ) (ls : List Label) (u : Unit {0}) → labels_fit path ls ≡ Ok u
    → are_shard_labels ls ≡ true
unfolding labels_fit
shard_labels_good path ls u is = app_good path (length (values_of (codes "output") ls))
    (app_of (values_of (codes "app") ls)) u is

prefix_good : (path : List ℕ) (o : Option Data) (name : List ℕ)
    → name_if is_hint_prefix (codes "hint") path o ≡ Ok name → is_hint_prefix name ≡ true
unfolding is_hint_prefix is_id
prefix_good path None name is = ap is_hint_prefix (sym (same_ok (codes "hint") name is)) ∙ refl
prefix_good path (Some d) name is = (
    let t = step (found path (as_str d)) (named is_hint_prefix path) name is in
    named_good is_hint_prefix path t.0 name t.2
    )

-- the id of a shard that was read is the one that was given, and all that follows it is good
shard_with_good : (path id : List ℕ) (d : Data) (s : ShardSpec) → is_id id ≡ true → shard_with path id d ≡ Ok s
    → (is_shard s ≡ true) × (s.id ≡ id)
unfolding shard_with
shard_with_good path id d s good is =
    let us = step (sources_at path d) _ s is in
    let log = step (name_at is_journal_name path (codes "recovery_log_prefix") d) _ s us.2 in
    let hint = step (name_or is_hint_prefix (codes "hint") path (codes "hint_prefix") d) _ s log.2 in
    let backups = step (number_or 0 0 4 path (codes "hint_backups") d) _ s hint.2 in
    let standbys = step (number_or 0 0 4 path (codes "hot_standbys") d) _ s backups.2 in
    let disable = step (flag_or false path (codes "disable") d) _ s standbys.2 in
    let labels = step (labels_at path d) _ s disable.2 in
    let fit = step (labels_fit (below path (codes "labels")) labels.0) _ s labels.2 in
    let P : ShardSpec → Type 0 = λ t. (is_shard t ≡ true) × (t.id ≡ id) in
    subst P (same_ok _ s fit.2) (
      both (is_id id) _ good
          (both (are_sources us.0) _ (sources_good path d us.0 us.1)
          (both (is_journal_name log.0) _ (name_good is_journal_name path (codes "recovery_log_prefix") log.0 d log.1)
          (both (is_hint_prefix hint.0) _
          (prefix_good (below path (codes "hint_prefix")) (get (codes "hint_prefix") d) hint.0 hint.1)
          (both (is_between 0 4 backups.0) _
          (number_or_good 0 0 4 (below path (codes "hint_backups"))
          (get (codes "hint_backups") d) backups.0 refl backups.1)
          (both (is_between 0 4 standbys.0) _
          (number_or_good 0 0 4 (below path (codes "hot_standbys"))
          (get (codes "hot_standbys") d) standbys.0 refl standbys.1)
          (both (is_label_set labels.0) (are_shard_labels labels.0)
          (labels_good (below path (codes "labels")) (get (codes "labels") d) labels.0 labels.1)
          (shard_labels_good (below path (codes "labels")) labels.0 fit.0 fit.1))))))),
      refl,
    )

pub shard_at_good : (path : List ℕ) (d : Data) (s : ShardSpec) → shard_at path d ≡ Ok s → is_shard s ≡ true
unfolding shard_at
shard_at_good path d s is =
    let h = step (has_only path shard_members d) _ s is in
    let n = step (name_at is_id path (codes "id") d) _ s h.2 in
    (shard_with_good path n.0 d s (name_good is_id path (codes "id") n.0 d n.1) n.2).0

next_shard_good : (path : List ℕ) (used : List (List ℕ)) (d : Data) (s : ShardSpec) → next_shard path used d ≡ Ok s
    → (is_shard s ≡ true) × (is_used used s.id ≡ false)
unfolding next_shard
next_shard_good path used d s is =
    let h = step (has_only path shard_members d) _ s is in
    let n = step (name_at is_id path (codes "id") d) _ s h.2 in
    let u = step (unused (below path (codes "id")) used n.0) _ s n.2 in
    let good = shard_with_good path n.0 d s (name_good is_id path (codes "id") n.0 d n.1) u.2 in
    (good.0, ap (is_used used) good.1 ∙ unused_good (below path (codes "id")) used n.0 u.0 u.1)

-- ---- journals and members

next_journal_good : (path : List ℕ) (used : List (List ℕ)) (d : Data) (j : JournalSpec)
    → next_journal path used d ≡ Ok j → (is_journal j ≡ true) × (is_used used j.name ≡ false)
unfolding next_journal
next_journal_good path used d j is =
    let h = step (has_only path journal_members d) _ j is in
    let n = step (name_at is_journal_name path (codes "name") d) _ j h.2 in
    let u = step (unused (below path (codes "name")) used n.0) _ j n.2 in
    let good = journal_with_good path n.0 d j (name_good is_journal_name path (codes "name") n.0 d n.1) u.2 in
    (good.0, ap (is_used used) good.1 ∙ unused_good (below path (codes "name")) used n.0 u.0 u.1)

pub limit_good : (path : List ℕ) (d : Data) (n : ℕ) → number_at 0 max_limit path (codes "limit") d ≡ Ok n
    → is_between 0 max_limit n ≡ true
limit_good path d n is =
    let s = step (found (below path (codes "limit")) (get (codes "limit") d)) _ n is in
    number_good 0 max_limit (below path (codes "limit")) s.0 n s.2

member_with_good : (path id : List ℕ) (d : Data) (m : MemberSpec) → is_id id ≡ true → is_reserved id ≡ false
    → member_with path id d ≡ Ok m → (is_member m ≡ true) × (m.id ≡ id)
unfolding member_with
member_with_good path id d m good free is =
    let zone = step (name_at is_id path (codes "zone") d) _ m is in
    let limit = step (number_at 0 max_limit path (codes "limit") d) _ m zone.2 in
    let P : MemberSpec → Type 0 = λ t. (is_member t ≡ true) × (t.id ≡ id) in
    subst P (same_ok _ m limit.2) (
      both (is_id id) _ good
          (both (not (is_reserved id)) _ (fresh_one (is_reserved id) free)
          (both (is_id zone.0) (is_between 0 max_limit limit.0) (name_good is_id path (codes "zone") zone.0 d zone.1)
          (limit_good path d limit.0 limit.1))),
      refl,
    )

next_member_good : (path : List ℕ) (used : List (List ℕ)) (d : Data) (m : MemberSpec) → next_member path used d ≡ Ok m
    → (is_member m ≡ true) × (is_used used m.id ≡ false)
unfolding next_member
next_member_good path used d m is =
    let h = step (has_only path member_names d) _ m is in
    let n = step (name_at is_id path (codes "id") d) _ m h.2 in
    let r = step (not_reserved (below path (codes "id")) n.0) _ m n.2 in
    let u = step (unused (below path (codes "id")) used n.0) _ m r.2 in
    let free = passed (is_reserved n.0) (BadName (below path (codes "id"))) r.0 r.1 in
    let good = member_with_good path n.0 d m (name_good is_id path (codes "id") n.0 d n.1) free u.2 in
    (good.0, ap (is_used used) good.1 ∙ unused_good (below path (codes "id")) used n.0 u.0 u.1)

-- ---- the four lists

-- journals that were read from a list that isn't too long
pub journals_read : (path : List ℕ) (items : Items) (u : Unit {0}) (js : List JournalSpec)
    → no_more_than max_journals path (count items) ≡ Ok u → each next_journal name_of_journal path 0 [] items ≡ Ok js
    → are_journals js ≡ true
journals_read path items u js few is =
    let read = each_good next_journal name_of_journal is_journal next_journal_good items path 0 [] js is in
    let P : ℕ → Type 0 = λ n. nat_le n max_journals ≡ true in
    both (nat_le (length js) max_journals) _ (subst P (sym read.many) (few_good max_journals path (count items) u few))
    (both (list_all is_journal js) (are_fresh name_of_journal [] js) read.all read.fresh)

pub shards_read : (path : List ℕ) (items : Items) (u : Unit {0}) (ss : List ShardSpec)
    → no_more_than max_shards path (count items) ≡ Ok u → each next_shard id_of_shard path 0 [] items ≡ Ok ss
    → are_shards ss ≡ true
shards_read path items u ss few is =
    let read = each_good next_shard id_of_shard is_shard next_shard_good items path 0 [] ss is in
    let P : ℕ → Type 0 = λ n. nat_le n max_shards ≡ true in
    both (nat_le (length ss) max_shards) _ (subst P (sym read.many) (few_good max_shards path (count items) u few))
    (both (list_all is_shard ss) (are_fresh id_of_shard [] ss) read.all read.fresh)

pub journals_good : (d : Data) (js : List JournalSpec) → journals_in d ≡ Ok js → are_journals js ≡ true
unfolding journals_in
journals_good d js is =
    let items = step (items_or_none [] (codes "journals") d) _ js is in
    let few = step (no_more_than max_journals (codes "journals") (count items.0)) _ js items.2 in
    journals_read (codes "journals") items.0 few.0 js few.1 few.2

pub shards_good : (d : Data) (ss : List ShardSpec) → shards_in d ≡ Ok ss → are_shards ss ≡ true
unfolding shards_in
shards_good d ss is =
    let items = step (items_or_none [] (codes "shards") d) _ ss is in
    let few = step (no_more_than max_shards (codes "shards") (count items.0)) _ ss items.2 in
    shards_read (codes "shards") items.0 few.0 ss few.1 few.2

members_good : (name : List ℕ) (used : List (List ℕ)) (d : Data) (ms : List MemberSpec)
    → members_in name used d ≡ Ok ms → are_members used ms ≡ true
unfolding members_in
members_good name used d ms is =
    let items = step (items_or_none [] name d) _ ms is in
    let few = step (no_more_than max_members name (length used + count items.0)) _ ms items.2 in
    let read = each_good next_member id_of_member is_member next_member_good items.0 name 0 used ms few.2 in
    let P : ℕ → Type 0 = λ n. nat_le (length used + n) max_members ≡ true in
    both (nat_le (length used + length ms) max_members) _
    (subst P (sym read.many) (few_good max_members name (length used + count items.0) few.0 few.1))
    (both (list_all is_member ms) (are_fresh id_of_member used ms) read.all read.fresh)

pub part_in_good : (d : Data) (specs : Specs) → part_in d ≡ Ok specs → are_specs specs ≡ true
unfolding part_in
part_in_good d specs is =
    let h = step (has_only [] specs_members d) _ specs is in
    let js = step (journals_in d) _ specs h.2 in
    let ss = step (shards_in d) _ specs js.2 in
    let bs = step (members_in (codes "brokers") [] d) _ specs ss.2 in
    let cs = step (members_in (codes "consumers") (map id_of_member bs.0) d) _ specs bs.2 in
    let P : Specs → Type 0 = λ t. are_specs t ≡ true in
    subst P (same_ok _ specs cs.2)
    (both (are_journals js.0) _ (journals_good d js.0 js.1)
    (both (are_shards ss.0) _ (shards_good d ss.0 ss.1)
    (both (are_members [] bs.0) (are_members (map id_of_member bs.0) cs.0) (members_good (codes "brokers") [] d bs.0 bs.1)
    (members_good (codes "consumers") (map id_of_member bs.0) d cs.0 cs.1))))

-- the lists that a text says are valid
pub part_is_valid : (bytes : List ℕ) (specs : Specs) → part_of bytes ≡ Ok specs → are_specs specs ≡ true
unfolding part_of
part_is_valid bytes specs is =
    let v = step (value_of bytes) _ specs is in
    part_in_good v.0 specs v.2

-- ---- what is made of what was read

pub shard_made : (path id : List ℕ) (d : Data) (sources : List SourceSpec) (log hint : List ℕ) (backups standbys : ℕ) (disable : Bool)
    (labels : List Label) (u : Unit {0}) → is_id id ≡ true → sources_at path d ≡ Ok sources
    → name_at is_journal_name path (codes "recovery_log_prefix") d ≡ Ok log
    → name_or is_hint_prefix (codes "hint") path (codes "hint_prefix") d ≡ Ok hint
    → number_or 0 0 4 path (codes "hint_backups") d ≡ Ok backups
    → number_or 0 0 4 path (codes "hot_standbys") d ≡ Ok standbys
    → flag_or false path (codes "disable") d ≡ Ok disable → labels_at path d ≡ Ok labels
    → labels_fit (below path (codes "labels")) labels ≡ Ok u
    → is_shard (record {
      id = id;
      sources = sources;
      recovery_log_prefix = log;
      hint_prefix = hint;
      hint_backups = backups;
      hot_standbys = standbys;
      disable = disable;
      labels = labels;
    }) ≡ true
unfolding shard_with
shard_made path id d sources log hint backups standbys disable labels u good s l h b t f ls fit =
    (shard_with_good path id d (record {
      id = id;
      sources = sources;
      recovery_log_prefix = log;
      hint_prefix = hint;
      hint_backups = backups;
      hot_standbys = standbys;
      disable = disable;
      labels = labels;
    }) good (rw (s, l, h, b, t, f, ls, fit) refl)).0

pub part_made : (d : Data) (js : List JournalSpec) (ss : List ShardSpec) (bs cs : List MemberSpec) (us vs : List (List ℕ))
    → journals_in d ≡ Ok js → shards_in d ≡ Ok ss → us ≡ [] → members_in (codes "brokers") us d ≡ Ok bs
    → vs ≡ us ++ map id_of_member bs → members_in (codes "consumers") vs d ≡ Ok cs
    → are_specs (record { journals = js; shards = ss; brokers = bs; consumers = cs }) ≡ true
part_made d js ss bs cs us vs j s none b more c =
    let P : List (List ℕ) → Type 0 = λ names. members_in (codes "brokers") names d ≡ Ok bs in
    let Q : List (List ℕ) → Type 0 = λ names. members_in (codes "consumers") (names ++ map id_of_member bs) d ≡ Ok cs in
    let R : List (List ℕ) → Type 0 = λ names. members_in (codes "consumers") names d ≡ Ok cs in
    both (are_journals js) _ (journals_good d js j)
    (both (are_shards ss) _ (shards_good d ss s)
    (both (are_members [] bs) (are_members (map id_of_member bs) cs)
    (members_good (codes "brokers") [] d bs (subst P none b))
    (members_good (codes "consumers") (map id_of_member bs) d cs (subst Q none (subst R more c)))))
