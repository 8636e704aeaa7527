-- Specifications that are printed are read back.
use Rattle.std.proofs.Common.{◌≡◌, ℕ, suc, ◌+◌, ◌≤◌, ◌^◌, List, [], ◌∷◌, ◌++◌, map, length, refl, ap, Bool, true, false, not, nat_le, nat_eq, Result, Ok, Option, Some, None, ◌∙◌, arith}
use Rattle.std.specs.Prelude.{codes}
use Rattle.std.specs.List.{list_all}
use Rattle.std.proofs.lemmas.Bool.{and_parts, not-true}
use Rattle.std.proofs.lemmas.Grind.{common_steps}
use Rattle.serde_json.specs.Data.{Data, depth}
use Rattle.serde_json.specs.View.{items_of}
use Rattle.serde_json.specs.Read.{max_depth}
use Rattle.gz_model.specs.Steps.{◌>>=◌}
use Rattle.gz_json.specs.Json.{json_of}
use Rattle.gz_label.specs.Labels.{is_label_set, values_of}
use Rattle.gz_label.specs.declared.label.Label.{Label}
use Rattle.gz_fields.specs.declared.error.FieldError.{FieldError}
use Rattle.gz_app.specs.declared.app.AppKind.{AppKind}
use Rattle.gz_app.specs.declared.app.AppKind.TheVariants.{Count, Relay, Latest}
use Rattle.gz_spec.specs.Records.{JournalSpec, SourceSpec, ShardSpec, MemberSpec, Specs}
use Rattle.gz_fields.specs.Paths.{below, at_place}
use Rattle.gz_fields.specs.Names.{is_id, is_journal_name}
use Rattle.gz_spec.specs.Reserved.{is_reserved, is_hint_prefix}
use Rattle.gz_fields.specs.Form.{found, is_between}
use Rattle.gz_fields.specs.Lists.{count, no_more_than, is_used, each}
use Rattle.gz_spec.specs.Journals.{fragment_in, journal_with, journal_at, next_journal, journal_of}
use Rattle.gz_spec.specs.Shards.{next_source, journal_named, not_empty, sources_at, app_of, outputs_fit, labels_fit, shard_with, shard_at, next_shard, shard_of}
use Rattle.gz_spec.specs.Members.{member_with, next_member}
use Rattle.gz_spec.specs.Specs.{name_of_journal, id_of_shard, id_of_member, journals_in, shards_in, members_in, part_in, part_of}
use Rattle.gz_print.specs.Printed.{fragment_data, journal_data, source_data, shard_data, member_data, specs_data, specs_data_as}
use Rattle.gz_spec.specs.Valid.{are_fresh, is_journal, is_source, app_takes, are_shard_labels, are_sources, is_shard, is_member, are_journals, are_shards, are_members, are_specs}
use Rattle.gz_print.proofs.LabelsBack.{labels_back}
use Rattle.gz_print.proofs.Depths.{journal_nests, shard_nests, specs_nest, specs_as_nest}

-- ---- lists

count_of : {A : Type 0} (f : A → Data) (xs : List A) → count (items_of (map f xs)) ≡ length xs
count_of f [] = refl
count_of f (x ∷ xs) = ap (λ (n : ℕ). suc n) (count_of f xs)

few_back : (most : ℕ) (path : List ℕ) (n : ℕ) → nat_le n most ≡ true → no_more_than most path n ≡ Ok tt
few_back most path n few = rw few refl

each_back : {A : Type 0} (read : List ℕ → List (List ℕ) → Data → Result A FieldError) (name_of : A → List ℕ) (f : A → Data) (good : A → Bool)
    → ((path : List ℕ) (used : List (List ℕ)) (a : A) → good a ≡ true → is_used used (name_of a) ≡ false → read path used (f a) ≡ Ok a)
    → (xs : List A) (path : List ℕ) (i : ℕ) (used : List (List ℕ)) → list_all good xs ≡ true → are_fresh name_of used xs ≡ true
    → each read name_of path i used (items_of (map f xs)) ≡ Ok xs
each_back read name_of f good back [] path i used all fresh = refl
each_back read name_of f good back (x ∷ xs) path i used all fresh =
    let g = and_parts (good x) (list_all good xs) all in
    let n = and_parts (not (is_used used (name_of x))) (are_fresh name_of (used ++ name_of x ∷ []) xs) fresh in
    rw (back (at_place path i) used x g.0 (not-true (is_used used (name_of x)) n.0), each_back read name_of f good back xs path (i + 1) (used ++ name_of x ∷ []) g.1 n.1) refl

-- ---- journals

fragment_back : (path : List ℕ) (n : ℕ) → is_between 1 1073741824 n ≡ true → fragment_in path (fragment_data n) ≡ Ok n
unfolding fragment_in
fragment_back path n good = rw good refl

journal_rest : (path : List ℕ) (j : JournalSpec) → is_between 1 5 j.replication ≡ true → is_label_set j.labels ≡ true → is_between 1 1073741824 j.fragment_length ≡ true
    → journal_with path j.name (journal_data j) ≡ Ok j
unfolding journal_with
journal_rest path j r l f = rw (r, labels_back (below path (codes "labels")) j.labels l, fragment_back (below path (codes "fragment")) j.fragment_length f) refl

journal_with_back : (path : List ℕ) (j : JournalSpec) → is_journal j ≡ true → journal_with path j.name (journal_data j) ≡ Ok j
journal_with_back path j good =
    let a = and_parts (is_journal_name j.name) _ good in
    let b = and_parts (is_between 1 5 j.replication) _ a.1 in
    let c = and_parts (is_label_set j.labels) (is_between 1 1073741824 j.fragment_length) b.1 in
    journal_rest path j b.0 c.0 c.1

next_journal_back : (path : List ℕ) (used : List (List ℕ)) (j : JournalSpec) → is_journal j ≡ true → is_used used j.name ≡ false → next_journal path used (journal_data j) ≡ Ok j
unfolding next_journal
next_journal_back path used j good new =
    let a = and_parts (is_journal_name j.name) _ good in
    rw (a.0, new, journal_with_back path j good) refl

journal_at_back : (path : List ℕ) (j : JournalSpec) → is_journal j ≡ true → journal_at path (journal_data j) ≡ Ok j
unfolding journal_at
journal_at_back path j good =
    let a = and_parts (is_journal_name j.name) _ good in
    rw (a.0, journal_with_back path j good) refl

pub journal_back : (j : JournalSpec) (d : Data) (text : List ℕ) → d ≡ journal_data j → (depth d ≤ max_depth → json_of text ≡ Some d) → is_journal j ≡ true → journal_of text ≡ Ok j
unfolding journal_of
journal_back j d text is reads good =
    let deep : depth d ≤ max_depth = rw is (journal_nests j) in
    rw (reads deep, is) (journal_at_back [] j good)

-- ---- shards

next_source_back : (path : List ℕ) (used : List (List ℕ)) (s : SourceSpec) → is_source s ≡ true → is_used used s.journal ≡ false → next_source path used (source_data s) ≡ Ok s
unfolding next_source
next_source_back path used s good new =
    let a = and_parts (is_journal_name s.journal) (is_between 0 (2 ^ 62) s.min_offset) good in
    rw (a.0, new, a.1) refl

some_there : (n : ℕ) → nat_le 1 n ≡ true → nat_eq n 0 ≡ false
some_there n some = grind (arith, common_steps)

not_empty_back : (path : List ℕ) (n : ℕ) → nat_le 1 n ≡ true → not_empty path n ≡ Ok tt
not_empty_back path n some = rw (some_there n some) refl

sources_back : (path : List ℕ) (s : ShardSpec) → are_sources s.sources ≡ true → sources_at path (shard_data s) ≡ Ok s.sources
unfolding sources_at
sources_back path s good =
    let a = and_parts (is_between 1 16 (length s.sources)) _ good in
    let n = and_parts (nat_le 1 (length s.sources)) (nat_le (length s.sources) 16) a.0 in
    let b = and_parts (list_all is_source s.sources) (are_fresh journal_named [] s.sources) a.1 in
    let p = below path (codes "sources") in
    rw (count_of source_data s.sources, not_empty_back p (length s.sources) n.0, few_back 16 p (length s.sources) n.1)
    (each_back next_source journal_named source_data is_source next_source_back s.sources p 0 [] b.0 b.1)

several_back : (path : List ℕ) (n : ℕ) → is_between 1 8 n ≡ true → (not_empty path n >>= λ _. no_more_than 8 path n) ≡ Ok tt
several_back path n good =
    let a = and_parts (nat_le 1 n) (nat_le n 8) good in
    rw (not_empty_back path n a.0, few_back 8 path n a.1) refl

app_back : (path : List ℕ) (n : ℕ) (app : Option AppKind) → app_takes n app ≡ true → (found path app >>= λ a. outputs_fit path n a) ≡ Ok tt
app_back path n None good = cc
app_back path n (Some Count) good = several_back path n good
app_back path n (Some Relay) good = several_back path n good
app_back path n (Some Latest) good = rw good refl

shard_labels_back : (path : List ℕ) (ls : List Label) → are_shard_labels ls ≡ true → labels_fit path ls ≡ Ok tt
unfolding labels_fit
shard_labels_back path ls good = app_back path (length (values_of (codes "output") ls)) (app_of (values_of (codes "app") ls)) good

shard_rest : (path : List ℕ) (s : ShardSpec) → are_sources s.sources ≡ true → is_journal_name s.recovery_log_prefix ≡ true → is_hint_prefix s.hint_prefix ≡ true
    → is_between 0 4 s.hint_backups ≡ true → is_between 0 4 s.hot_standbys ≡ true → is_label_set s.labels ≡ true → are_shard_labels s.labels ≡ true
    → shard_with path s.id (shard_data s) ≡ Ok s
unfolding shard_with
shard_rest path s us log hint backups standbys ls app =
    rw (sources_back path s us, log, hint, backups, standbys, labels_back (below path (codes "labels")) s.labels ls, shard_labels_back (below path (codes "labels")) s.labels app) refl

shard_with_back : (path : List ℕ) (s : ShardSpec) → is_shard s ≡ true → shard_with path s.id (shard_data s) ≡ Ok s
shard_with_back path s good =
    let a = and_parts (is_id s.id) _ good in
    let b = and_parts (are_sources s.sources) _ a.1 in
    let c = and_parts (is_journal_name s.recovery_log_prefix) _ b.1 in
    let d = and_parts (is_hint_prefix s.hint_prefix) _ c.1 in
    let e = and_parts (is_between 0 4 s.hint_backups) _ d.1 in
    let f = and_parts (is_between 0 4 s.hot_standbys) _ e.1 in
    let g = and_parts (is_label_set s.labels) (are_shard_labels s.labels) f.1 in
    shard_rest path s b.0 c.0 d.0 e.0 f.0 g.0 g.1

next_shard_back : (path : List ℕ) (used : List (List ℕ)) (s : ShardSpec) → is_shard s ≡ true → is_used used s.id ≡ false → next_shard path used (shard_data s) ≡ Ok s
unfolding next_shard
next_shard_back path used s good new =
    let a = and_parts (is_id s.id) _ good in
    rw (a.0, new, shard_with_back path s good) refl

shard_at_back : (path : List ℕ) (s : ShardSpec) → is_shard s ≡ true → shard_at path (shard_data s) ≡ Ok s
unfolding shard_at
shard_at_back path s good =
    let a = and_parts (is_id s.id) _ good in
    rw (a.0, shard_with_back path s good) refl

pub shard_back : (s : ShardSpec) (d : Data) (text : List ℕ) → d ≡ shard_data s → (depth d ≤ max_depth → json_of text ≡ Some d) → is_shard s ≡ true → shard_of text ≡ Ok s
unfolding shard_of
shard_back s d text is reads good =
    let deep : depth d ≤ max_depth = rw is (shard_nests s) in
    rw (reads deep, is) (shard_at_back [] s good)

-- ---- members

next_member_back : (path : List ℕ) (used : List (List ℕ)) (m : MemberSpec) → is_member m ≡ true → is_used used m.id ≡ false → next_member path used (member_data m) ≡ Ok m
unfolding next_member member_with
next_member_back path used m good new =
    let a = and_parts (is_id m.id) _ good in
    let b = and_parts (not (is_reserved m.id)) _ a.1 in
    let c = and_parts (is_id m.zone) (is_between 0 1024 m.limit) b.1 in
    rw (a.0, not-true (is_reserved m.id) b.0, new, c.0, c.1) refl

-- ---- the four lists

pub journals_back : (s : Specs) → are_journals s.journals ≡ true → journals_in (specs_data s) ≡ Ok s.journals
unfolding journals_in
journals_back s good =
    let a = and_parts (nat_le (length s.journals) 1024) _ good in
    let b = and_parts (list_all is_journal s.journals) (are_fresh name_of_journal [] s.journals) a.1 in
    rw (count_of journal_data s.journals, few_back 1024 (codes "journals") (length s.journals) a.0)
    (each_back next_journal name_of_journal journal_data is_journal next_journal_back s.journals (codes "journals") 0 [] b.0 b.1)

pub shards_back : (s : Specs) → are_shards s.shards ≡ true → shards_in (specs_data s) ≡ Ok s.shards
unfolding shards_in
shards_back s good =
    let a = and_parts (nat_le (length s.shards) 256) _ good in
    let b = and_parts (list_all is_shard s.shards) (are_fresh id_of_shard [] s.shards) a.1 in
    rw (count_of shard_data s.shards, few_back 256 (codes "shards") (length s.shards) a.0)
    (each_back next_shard id_of_shard shard_data is_shard next_shard_back s.shards (codes "shards") 0 [] b.0 b.1)

brokers_back : (s : Specs) → are_members [] s.brokers ≡ true → members_in (codes "brokers") [] (specs_data s) ≡ Ok s.brokers
unfolding members_in
brokers_back s good =
    let a = and_parts (nat_le (0 + length s.brokers) 64) _ good in
    let b = and_parts (list_all is_member s.brokers) (are_fresh id_of_member [] s.brokers) a.1 in
    rw (count_of member_data s.brokers, few_back 64 (codes "brokers") (0 + length s.brokers) a.0)
    (each_back next_member id_of_member member_data is_member next_member_back s.brokers (codes "brokers") 0 [] b.0 b.1)

consumers_back : (used : List (List ℕ)) (s : Specs) → are_members used s.consumers ≡ true → members_in (codes "consumers") used (specs_data s) ≡ Ok s.consumers
unfolding members_in
consumers_back used s good =
    let a = and_parts (nat_le (length used + length s.consumers) 64) _ good in
    let b = and_parts (list_all is_member s.consumers) (are_fresh id_of_member used s.consumers) a.1 in
    rw (count_of member_data s.consumers, few_back 64 (codes "consumers") (length used + length s.consumers) a.0)
    (each_back next_member id_of_member member_data is_member next_member_back s.consumers (codes "consumers") 0 used b.0 b.1)

part_in_back : (s : Specs) → are_specs s ≡ true → part_in (specs_data s) ≡ Ok s
unfolding part_in
part_in_back s good =
    let a = and_parts (are_journals s.journals) _ good in
    let b = and_parts (are_shards s.shards) _ a.1 in
    let c = and_parts (are_members [] s.brokers) (are_members (map id_of_member s.brokers) s.consumers) b.1 in
    rw (journals_back s a.0, shards_back s b.0, brokers_back s c.0, consumers_back (map id_of_member s.brokers) s c.1) refl

pub part_back : (s : Specs) (d : Data) (text : List ℕ) → d ≡ specs_data s → (depth d ≤ max_depth → json_of text ≡ Some d) → are_specs s ≡ true → part_of text ≡ Ok s
unfolding part_of
part_back s d text is reads good =
    let deep : depth d ≤ max_depth = rw is (specs_nest s) in
    rw (reads deep, is) (part_in_back s good)

-- ---- the four lists, and the event that says them

part_same : (event : List ℕ) (s : Specs) → part_in (specs_data_as event s) ≡ part_in (specs_data s)
unfolding part_in journals_in shards_in members_in specs_data_as
part_same event s = refl

pub says_as : (event : List ℕ) (s : Specs) (d : Data) (text : List ℕ) → d ≡ specs_data_as event s
    → (depth d ≤ max_depth → json_of text ≡ Some d) → json_of text ≡ Some (specs_data_as event s)
says_as event s d text is reads =
    let deep : depth d ≤ max_depth = rw is (specs_as_nest event s) in
    reads deep ∙ ap Some is

pub part_as_back : (event : List ℕ) (s : Specs) (d : Data) (text : List ℕ) → d ≡ specs_data_as event s
    → (depth d ≤ max_depth → json_of text ≡ Some d) → are_specs s ≡ true → part_of text ≡ Ok s
unfolding part_of
part_as_back event s d text is reads good = rw (says_as event s d text is reads) (part_same event s ∙ part_in_back s good)
