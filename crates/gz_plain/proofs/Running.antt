-- What reading, commits and longer journals make of what a shard keeps.
use Rattle.std.proofs.Common.{◌≡◌, ℕ, zero, suc, ◌+◌, ◌<◌, ◌≤◌, ◌^◌, List, [], ◌∷◌, ◌++◌, length, take, drop, map, refl, ap, sym, ◌∙◌, subst, Bool, true, false, append_assoc, get_or, cond, nat_lt, nat_le, ◌&&◌, Some, None, Option, arith}
use Rattle.std.proofs.lemmas.Grind.{common_steps}
use Rattle.std.proofs.lemmas.List.{append-nil, length-append, length-take-le, map-append}
use Rattle.gz_model.specs.Prefix.{IsPrefix}
use Rattle.gz_frame.specs.Messages.{Message}
use Rattle.gz_frame.specs.Release.{Release}
use Rattle.gz_frame.specs.Text.{messages_of}
use Rattle.gz_sequencer.specs.Committed.{committed, released_in}
use Rattle.gz_sequencer.specs.Machine.{Point, started, fed, point_of}
use Rattle.gz_promise.specs.Journals.{Journal, text_of, place_of}
use Rattle.gz_promise.specs.Parts.{part}
use Rattle.gz_promise.specs.Sources as sources
use Rattle.gz_promise.specs.Sources.{Source, end_of, ends_of, all_committed, froms_of, parts}
use Rattle.gz_plain.specs.Seen.{source_of}
use Rattle.gz_plain.specs.Readers.{IsRead, AreRead, HaveRoom, news, whole, reading, accepted, accepted_if, reading_all, accepted_all, all_news, text_behind, text_for, end_of_reader}
use Rattle.gz_plain.specs.Running.{AllEndBy, IsTaken, AreTaken}
use Rattle.gz_plain.specs.declared.reader.Next.{Next}
use Rattle.gz_plain.specs.declared.reader.Reader.{Reader}
use Rattle.gz_plain.proofs.Longer.{Longer, Adds, prefix_drop}
use Rattle.gz_plain.proofs.Growth.{text_inside, committed_inside}
use Rattle.gz_plain.proofs.Parts.{Within, within_wider, part_inside, part_before, part_two, messages_two}
use Rattle.gz_plain.proofs.Reading.{committed_prefix, adds_prefix, news_behind, behind_len}
use Rattle.gz_plain.proofs.Takes.{append_none}

-- ---- ends

test_by : (from to end : ℕ) → end ≤ from → (nat_lt from end && nat_le end to) ≡ false
test_by from to end l = grind (arith, common_steps)

-- nothing ends behind an offset by which all ends
part_by : (from to : ℕ) (rs : List Release) → AllEndBy from rs → part from to rs ≡ []
part_by from to [] e = refl
part_by from to (r ∷ rs) e = rw (test_by from to r.end e.0) (part_by from to rs e.1)

pub ends_within : (low high : ℕ) (rs : List Release) → Within low high rs → AllEndBy high rs
ends_within low high [] w = tt
ends_within low high (r ∷ rs) w = (w.0.1, ends_within low high rs w.1)

-- ---- one reader

-- what is new is what is released behind what was read
new_messages : (r : Reader) (text : List ℕ) → IsRead r text → news r text ≡ released_in (adds_prefix r.from r.read (text_behind r text)).more
new_messages r text read =
    let xs : List ℕ = text_behind r text in
    let high : ℕ = r.from + length xs in
    let a : Adds r.from (take r.read xs) xs = adds_prefix r.from r.read xs in
    let prefix : List Release = committed r.from (take r.read xs) in
    let behind : Within (r.from + r.read) high a.more = subst (λ (n : ℕ). Within (r.from + n) high a.more) (length-take-le r.read xs read.within) a.behind in
    ap (λ (rs : List Release). part (r.from + r.read) high rs) a.joined ∙ part_two (r.from + r.read) high prefix a.more
    ∙ rw (part_before r.from (r.from + r.read) (r.from + r.read) high prefix (omega arith) (committed_prefix r.from r.read xs read.within), part_inside (r.from + r.read) high a.more behind) refl

-- what is left to take is what is new
untaken_one : (o : ℕ) (r : Reader) (text : List ℕ) → IsRead r text → IsTaken o r text
    → part o (r.from + length (text_behind r text)) (committed r.from (text_behind r text)) ≡ news r text
untaken_one o r text read taken =
    let xs : List ℕ = text_behind r text in
    let high : ℕ = r.from + length xs in
    let a : Adds r.from (take r.read xs) xs = adds_prefix r.from r.read xs in
    let prefix : List Release = committed r.from (take r.read xs) in
    let behind : Within (r.from + r.read) high a.more = subst (λ (n : ℕ). Within (r.from + n) high a.more) (length-take-le r.read xs read.within) a.behind in
    ap (λ (rs : List Release). part o high rs) a.joined ∙ part_two o high prefix a.more
    ∙ rw (part_by o high prefix taken.ended, part_inside o high a.more (within_wider (r.from + r.read) high o high a.more taken.below (omega arith) behind)) refl
    ∙ sym (new_messages r text read)

take_all : (xs : List ℕ) → take (length xs) xs ≡ xs
take_all [] = refl
take_all (x ∷ xs) = ap (λ (ys : List ℕ). x ∷ ys) (take_all xs)

not_less : (m n : ℕ) → nat_lt m n ≡ false → n ≤ m
not_less m n is = grind (arith, common_steps)

-- what a reader keeps among journals
abbrev pub Fits : List Journal → Reader → Type 0
Fits js r = (r.from ≤ 2 ^ 62) × (r.place ≡ place_of r.journal js) × IsRead r (text_for js r)

-- a reader that has read on, once that counts
record IsOn (js : List Journal) (r n : Reader) : Type 0 where
  fits : Fits js n
  source : source_of n ≡ source_of r
  end : end_of_reader n ≡ end_of js (source_of r)
  further : r.from + r.read ≤ n.from + n.read
  quiet : (o : ℕ) → IsTaken o r (text_for js r) → news r (text_for js r) ≡ [] → IsTaken o n (text_for js n)

none_mapped : (rs : List Release) → released_in rs ≡ [] → rs ≡ []
none_mapped [] none = refl
none_mapped (r ∷ rs) none = absurd (cons_none (r.message) (released_in rs) none)
  where
    cons_none : (m : Message) (ms : List Message) → m ∷ ms ≡ [] → ⊥
    cons_none m ms none = cc

-- where nothing is new, all that is committed was released before
old_all : (r : Reader) (text : List ℕ) → IsRead r text → news r text ≡ [] → committed r.from (text_behind r text) ≡ committed r.from (take r.read (text_behind r text))
old_all r text read none =
    let xs : List ℕ = text_behind r text in
    let a : Adds r.from (take r.read xs) xs = adds_prefix r.from r.read xs in
    a.joined ∙ ap (λ (rs : List Release). committed r.from (take r.read xs) ++ rs) (none_mapped a.more (sym (new_messages r text read) ∙ none)) ∙ append-nil (committed r.from (take r.read xs))

on_by : (b : Bool) (js : List Journal) (r : Reader) → nat_lt r.read (length (text_behind r (text_for js r))) ≡ b → Fits js r
    → IsOn js r (accepted (record r { next = cond b (Some (whole r (text_for js r))) None }))
on_by true js r is fits =
    let text : List ℕ = text_for js r in
    let xs : List ℕ = text_behind r text in
    record {
      fits = (fits.0, fits.1, record { within = omega arith; at = ap (λ (ys : List ℕ). point_of (fed (started r.from) ys)) (sym (take_all xs)) });
      source = refl;
      end = refl;
      further = omega (arith, fits.2.within);
      quiet = λ o taken none. record {
        below = omega (arith, taken.below, fits.2.within);
        ended = subst (λ (rs : List Release). AllEndBy o rs)
            (sym (old_all r text fits.2 none) ∙ ap (λ (ys : List ℕ). committed r.from ys) (sym (take_all xs)))
            taken.ended;
      };
    }
on_by false js r is fits =
    let text : List ℕ = text_for js r in
    let all : r.read ≡ length (text_behind r text) = omega (arith, fits.2.within, not_less r.read (length (text_behind r text)) is) in
    record {
      fits = (fits.0, fits.1, record { within = fits.2.within; at = fits.2.at });
      source = refl;
      end = omega (arith, all);
      further = omega arith;
      quiet = λ o taken none. record { below = taken.below; ended = taken.ended };
    }

on : (js : List Journal) (r : Reader) → Fits js r → IsOn js r (accepted (reading (text_for js r) r))
on js r fits = on_by (nat_lt r.read (length (text_behind r (text_for js r)))) js r refl fits

room_two : (rs ss : List Reader) → HaveRoom rs → HaveRoom ss → HaveRoom (rs ++ ss)
room_two [] ss a b = b
room_two (r ∷ rs) ss a b = (a.0, room_two rs ss a.1 b)

accepted_two : (rs ss : List Reader) → accepted_all (rs ++ ss) ≡ accepted_all rs ++ accepted_all ss
accepted_two rs ss = map-append accepted rs ss

pub room_more : (js : List Journal) (rs new : List Reader) (r n : Reader) → new ≡ rs ++ n ∷ [] → n ≡ reading (text_for js r) r → length (text_for js r) ≤ 2 ^ 62 → Fits js r → HaveRoom (accepted_all rs)
    → HaveRoom (accepted_all new)
room_more js rs new r n pushed is short fits room =
    let o : IsOn js r (accepted (reading (text_for js r) r)) = on js r fits in
    let one : end_of_reader (accepted (reading (text_for js r) r)) < 2 ^ 64 =
    omega (arith, o.end, behind_len r (text_for js r), fits.0, short) in
    let all : new ≡ rs ++ reading (text_for js r) r ∷ [] = pushed ∙ ap (λ (m : Reader). rs ++ m ∷ []) is in
    subst (λ (ss : List Reader). HaveRoom ss) (sym (ap (λ (ss : List Reader). accepted_all ss) all ∙ accepted_two rs (reading (text_for js r) r ∷ [])))
    (room_two (accepted_all rs) (accepted (reading (text_for js r) r) ∷ []) room (one, tt))

-- ---- one reader after another

abbrev pub IsReading : List Journal → List Reader → List Message → List Reader → List Reader → List Message → Type 0
IsReading js all before rest readers messages =
    AreRead js rest
    × (readers ++ reading_all js rest ≡ reading_all js all)
    × (messages ++ all_news js rest ≡ before ++ all_news js all)
    × HaveRoom (accepted_all readers)

pub reading_turn : (js : List Journal) (all : List Reader) (before : List Message) (rest rest2 readers readers2 : List Reader) (messages messages2 : List Message) (r n : Reader) (text : List ℕ)
    → rest ≡ r ∷ rest2 → text ≡ text_for js r → length text ≤ 2 ^ 62 → n ≡ reading text r → readers2 ≡ readers ++ n ∷ [] → messages2 ≡ messages ++ news r text
    → IsReading js all before rest readers messages → IsReading js all before rest2 readers2 messages2
reading_turn js all before rest rest2 readers readers2 messages messages2 r n text next is short new pushed released inv =
    let read : AreRead js (r ∷ rest2) = subst (λ (rs : List Reader). AreRead js rs) next inv.0 in (
      read.1,
      ap (λ (rs : List Reader). rs ++ reading_all js rest2) (pushed ∙ ap (λ (m : Reader). readers ++ m ∷ []) (new ∙ ap (λ (t : List ℕ). reading t r) is))
          ∙ append_assoc readers (reading (text_for js r) r ∷ []) (reading_all js rest2)
          ∙ ap (λ (rs : List Reader). readers ++ reading_all js rs) (sym next) ∙ inv.1,
      ap (λ (ms : List Message). ms ++ all_news js rest2) (released ∙ ap (λ (t : List ℕ). messages ++ news r t) is)
          ∙ append_assoc messages (news r (text_for js r)) (all_news js rest2)
          ∙ ap (λ (rs : List Reader). messages ++ all_news js rs) (sym next) ∙ inv.2,
      room_more js readers readers2 r n pushed (new ∙ ap (λ (t : List ℕ). reading t r) is) (subst (λ (t : List ℕ). length t ≤ 2 ^ 62) is short) read.0 inv.3,
    )

-- ---- all readers

pub sources_on : (js : List Journal) (rs : List Reader) → AreRead js rs → map source_of (accepted_all (reading_all js rs)) ≡ map source_of rs
sources_on js [] read = refl
sources_on js (r ∷ rs) read = rw ((on js r read.0).source, sources_on js rs read.1) refl

pub sources_reading : (js : List Journal) (rs : List Reader) → map source_of (reading_all js rs) ≡ map source_of rs
sources_reading js [] = refl
sources_reading js (r ∷ rs) = ap (λ (ss : List Source). source_of r ∷ ss) (sources_reading js rs)

pub ends_on : (js : List Journal) (rs : List Reader) → AreRead js rs → map end_of_reader (accepted_all (reading_all js rs)) ≡ ends_of js (map source_of rs)
ends_on js [] read = refl
ends_on js (r ∷ rs) read = rw ((on js r read.0).end, ends_on js rs read.1) refl

pub read_on : (js : List Journal) (rs : List Reader) → AreRead js rs → AreRead js (accepted_all (reading_all js rs))
read_on js [] read = tt
read_on js (r ∷ rs) read = ((on js r read.0).fits, read_on js rs read.1)

pub read_reading : (js : List Journal) (rs : List Reader) → AreRead js rs → AreRead js (reading_all js rs)
read_reading js [] read = tt
read_reading js (r ∷ rs) read = ((read.0.0, read.0.1, record { within = read.0.2.within; at = read.0.2.at }), read_reading js rs read.1)

pub taken_reading : (js : List Journal) (os : List ℕ) (rs : List Reader) → AreTaken js os rs → AreTaken js os (reading_all js rs)
taken_reading js [] [] taken = tt
taken_reading js [] (r ∷ rs) taken = absurd taken
taken_reading js (o ∷ os) [] taken = absurd taken
taken_reading js (o ∷ os) (r ∷ rs) taken = (record { below = taken.0.below; ended = taken.0.ended }, taken_reading js os rs taken.1)

-- up to where it has read, all is released
pub taken_own : (js : List Journal) (rs : List Reader) → AreRead js rs → AreTaken js (map end_of_reader rs) rs
taken_own js [] read = tt
taken_own js (r ∷ rs) read =
    let xs : List ℕ = text_behind r (text_for js r) in (
      record {
        below = omega arith;
        ended = ends_within r.from (r.from + r.read) (committed r.from (take r.read xs)) (committed_prefix r.from r.read xs read.0.2.within);
      },
      taken_own js rs read.1,
    )

pub taken_quiet : (js : List Journal) (os : List ℕ) (rs : List Reader) → AreRead js rs → AreTaken js os rs → all_news js rs ≡ [] → AreTaken js os (accepted_all (reading_all js rs))
taken_quiet js [] [] read taken none = tt
taken_quiet js [] (r ∷ rs) read taken none = absurd taken
taken_quiet js (o ∷ os) [] read taken none = absurd taken
taken_quiet js (o ∷ os) (r ∷ rs) read taken none =
    let both = append_none (news r (text_for js r)) (all_news js rs) none in
    ((on js r read.0).quiet o taken.0 both.0, taken_quiet js os rs read.1 taken.1 both.1)

-- what is left to take of all sources is what is new
pub untaken_all : (js : List Journal) (os : List ℕ) (rs : List Reader) → AreRead js rs → AreTaken js os rs
    → parts os (ends_of js (map source_of rs)) (all_committed js (map source_of rs)) ≡ all_news js rs
untaken_all js [] [] read taken = refl
untaken_all js [] (r ∷ rs) read taken = absurd taken
untaken_all js (o ∷ os) [] read taken = absurd taken
untaken_all js (o ∷ os) (r ∷ rs) read taken = rw (untaken_one o r (text_for js r) read.0.2 taken.0, untaken_all js os rs read.1 taken.1) refl

-- ---- longer journals

take_prefix : (n : ℕ) (xs ys : List ℕ) → n ≤ length xs → take n (xs ++ ys) ≡ take n xs
take_prefix zero xs ys fits = refl
take_prefix (suc n) [] ys fits = absurd (omega (arith, fits))
take_prefix (suc n) (x ∷ xs) ys fits = ap (λ (zs : List ℕ). x ∷ zs) (take_prefix n xs ys (omega (arith, fits)))

same_prefix : (r : Reader) (text new : List ℕ) → IsPrefix text new → IsRead r text → take r.read (text_behind r new) ≡ take r.read (text_behind r text)
same_prefix r text new longer read =
    let p : IsPrefix (text_behind r text) (text_behind r new) = prefix_drop r.from text new longer in
    ap (λ (ys : List ℕ). take r.read ys) (sym p.1) ∙ take_prefix r.read (text_behind r text) p.0 read.within

pub read_longer : (js new : List Journal) (rs : List Reader) → Longer js new → ((name : List ℕ) → place_of name new ≡ place_of name js) → AreRead js rs → AreRead new rs
read_longer js new [] longer places read = tt
read_longer js new (r ∷ rs) longer places read =
    let text : List ℕ = text_for js r in
    let p : IsPrefix (text_behind r text) (text_behind r (text_for new r)) = prefix_drop r.from text (text_for new r) (longer r.journal) in
    let further : length (text_behind r (text_for new r)) ≡ length (text_behind r text) + length p.0 = ap (λ (ys : List ℕ). length ys) (sym p.1) ∙ length-append (text_behind r text) p.0 in (
      (
        read.0.0,
        read.0.1 ∙ sym (places r.journal),
        record {
          within = omega (arith, read.0.2.within, further);
          at = read.0.2.at ∙ ap (λ (ys : List ℕ). point_of (fed (started r.from) ys)) (sym (same_prefix r text (text_for new r) (longer r.journal) read.0.2));
        },
      ),
      read_longer js new rs longer places read.1,
    )

pub taken_longer : (js new : List Journal) (os : List ℕ) (rs : List Reader) → Longer js new → AreRead js rs → AreTaken js os rs → AreTaken new os rs
taken_longer js new [] [] longer read taken = tt
taken_longer js new [] (r ∷ rs) longer read taken = absurd taken
taken_longer js new (o ∷ os) [] longer read taken = absurd taken
taken_longer js new (o ∷ os) (r ∷ rs) longer read taken = (
  record {
    below = taken.0.below;
    ended = subst (λ (ys : List ℕ). AllEndBy o (committed r.from ys)) (sym (same_prefix r (text_for js r) (text_for new r) (longer r.journal) read.0.2)) taken.0.ended;
  },
  taken_longer js new os rs longer read.1 taken.1,
)

-- ---- what is new of all

pub drop_here : (i : ℕ) (rs : List Reader) (r : Reader) → i < length rs → r ≡ get_or rs i r → drop i rs ≡ r ∷ drop (i + 1) rs
drop_here i [] r less is = absurd (omega (arith, less))
drop_here zero (s ∷ rs) r less is = ap (λ (x : Reader). x ∷ rs) (sym is)
drop_here (suc i) (s ∷ rs) r less is =
    let next : suc (i + 1) ≡ suc i + 1 = omega arith in
    drop_here i rs r (omega (arith, less)) is ∙ ap (λ (n : ℕ). r ∷ drop n (s ∷ rs)) next

pub news_turn : (js : List Journal) (all rest rest2 : List Reader) (messages messages2 : List Message) (r : Reader) (text : List ℕ) → rest ≡ r ∷ rest2 → text ≡ text_for js r → messages2 ≡ messages ++ news r text
    → AreRead js rest × (messages ++ all_news js rest ≡ all_news js all) → AreRead js rest2 × (messages2 ++ all_news js rest2 ≡ all_news js all)
news_turn js all rest rest2 messages messages2 r text next is released inv =
    let read : AreRead js (r ∷ rest2) = subst (λ (rs : List Reader). AreRead js rs) next inv.0 in (
      read.1,
      ap (λ (ms : List Message). ms ++ all_news js rest2) (released ∙ ap (λ (t : List ℕ). messages ++ news r t) is)
          ∙ append_assoc messages (news r (text_for js r)) (all_news js rest2)
          ∙ ap (λ (rs : List Reader). messages ++ all_news js rs) (sym next) ∙ inv.1,
    )
