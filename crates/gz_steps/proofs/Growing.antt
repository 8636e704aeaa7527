-- What an open primary adds: both lists get the same (`LedgerSeen` stays). Three cases: it adds nothing, since its epoch
-- isn't greater and its head is in the journal; it goes on, and adds entries alone; or it has just opened, and adds what it
-- adopted, with a reset where it was begun from the store. Bytes are compared only where entries alone stand between.
use Rattle.std.proofs.Common.{◌≡◌, ℕ, ◌+◌, ◌-◌, ◌<◌, ◌≤◌, List, [], ◌∷◌, ◌++◌, length, take, drop, refl, ap, sym, ◌∙◌, arith, subst, inl, inr, true, false, Bool, zero, suc}
use Rattle.std.specs.Prelude.{map, nat_le, nat_lt, ◌&&◌, ◌==◌, if◌then◌else◌, max, min}
use Rattle.std.proofs.lemmas.Bool.{cond_both, cases_lt, lt-ltb, eqb-true, ltb-true, and_parts, cases_Bool, leb-true}
use Rattle.std.proofs.lemmas.List.{length-append, length-drop, take_all, take-take, append-nil}
use Rattle.std.proofs.Math.ListN.{drop_of_length-le}
use Rattle.gz_label.specs.declared.label.Label.{Label}
use Rattle.gz_label.specs.declared.entry.Entry.{Entry}
use Rattle.gz_label.specs.declared.entry.Image.{Image}
use Rattle.gz_cluster.specs.Ledger.{Ledger, grown_with, grown_by, entries_between, is_bare, opened}
use Rattle.gz_lineage.specs.Prefix.{IsPrefix}
use Rattle.gz_lineage.specs.Marks.{Mark, Reset, Added, Lawful, registers_from, end_of_marks}
use Rattle.gz_lineage.specs.Lists.{Each}
use Rattle.gz_lineage.specs.World.{World, node_at}
use Rattle.gz_lineage.proofs.Prefixes.{pre_len, pre_same, len_take}
use Rattle.gz_carry.specs.Histories.{HasBytes}
use Rattle.gz_lineage.proofs.Landing.{lawful_prefix}
use Rattle.gz_lineage.proofs.History.{Grows}
use Rattle.gz_lineage.proofs.Facts.{Plain, IsOpen, PartOk}
use Rattle.gz_lineage.proofs.Invariant.{Inv, prefixes}
use Rattle.gz_steps.proofs.Adding.{opening_adds, going_adds}
use Rattle.gz_lineage.proofs.Primary.{journal_in}
use Rattle.gz_carry.specs.Seen.{Fits}
use Rattle.gz_carry.proofs.Ends.{end_more, end_less, registers_append, end_whole}
use Rattle.gz_steps.proofs.Ledgers.{AllFull, adds}
use Rattle.gz_steps.specs.Followed.{plain_of, LedgerSeen}
use Rattle.gz_steps.proofs.Normal.{same_end, adds_same}
use Rattle.gz_steps.proofs.Reaching.{lawful_bytes}
use Rattle.gz_lineage.specs.Nodes as reduced
use Rattle.gz_lineage.specs.World as world
use Rattle.gz_replica.specs.declared.part.Part.TheVariants as full_part
use Rattle.gz_replica.specs.declared.part.Route as full_routes
use Rattle.gz_replica.specs.Member.{Member}

-- ---- spools

-- what holds of each mark holds of each behind some
each_drop : (k : ℕ) (xs : List Mark) → Each HasBytes xs → Each HasBytes (drop k xs)
each_drop zero xs a = a
each_drop (suc k) [] a = a
each_drop (suc k) (x ∷ xs) a = each_drop k xs a.1

all_full : (es : List Entry) → Each HasBytes (map Added es) → AllFull es
all_full [] a = tt
all_full (e ∷ es) a = (a.0, all_full es a.1)

-- entries of a spool that is seen aren't empty
pub spool_full : (w : World) (i : Inv w) (n : ℕ) (m : Image) → Fits m (node_at w.state.nodes n).spool (node_at w.state.nodes n).head → AllFull m.entries
spool_full w i n m f =
    let st = node_at w.state.nodes n in
    let law : Lawful st.spool = lawful_prefix st.spool (i.g.text st.adopted) (i.nodes n).body.copy.within (i.global.lawful st.adopted) in
    all_full m.entries (subst (λ x. Each HasBytes x) f.entries (each_drop f.cut st.spool (lawful_bytes st.spool law)))

-- nothing stands between an offset and one that isn't above it
none_between : (from to at : ℕ) (es : List Entry) → AllFull es → to ≤ from → entries_between from to at es ≡ []
none_between from to at [] f l = refl
none_between from to at (e ∷ es) f l =
    cond_both (nat_le from at && nat_le (at + length e.bytes) to) (Added e ∷ entries_between from to (at + length e.bytes) es) (entries_between from to (at + length e.bytes) es) (λ ms. ms ≡ [])
    (λ t. absurd (let both = and_parts (nat_le from at) (nat_le (at + length e.bytes) to) t in
    let a : from ≤ at = leb-true from at both.0 in let b : at + length e.bytes ≤ to = leb-true (at + length e.bytes) to both.1 in omega (arith, f.0)))
    (λ _. none_between from to (at + length e.bytes) es f.1 l)

-- a head that is seen is not above the end
pub head_low : (w : World) (i : Inv w) (n : ℕ) (m : Image) → Fits m (node_at w.state.nodes n).spool (node_at w.state.nodes n).head → m.head ≤ end_of_marks w.journal
head_low w i n m f =
    let st = node_at w.state.nodes n in
    let p = prefixes w i n in
    let k = length (take st.head st.spool) in
    omega (arith, f.heads.ends, ap end_of_marks p.prefix, end_more k (length w.journal) w.journal (pre_len p), end_whole w.journal)

-- a broker that adds nothing
pub adds_nothing : (w : World) (i : Inv w) (n : ℕ) (m : Member) (r : full_routes.Route) (held : List (List ℕ × ℕ)) → Fits m.spool (node_at w.state.nodes n).spool (node_at w.state.nodes n).head → r.epoch ≤ w.top →
    (l : Ledger) → LedgerSeen l w → LedgerSeen (grown_with l m (full_part.Open r held)) w
adds_nothing w i n m r held f low l s =
    let no : nat_lt l.top r.epoch ≡ false = not_less l.top r.epoch (omega (arith, s.top)) in
    let calm : opened l.top r.epoch m.spool ≡ [] = ap (λ (b : Bool). if b && is_bare m.spool then Reset ∷ [] else []) no in
    let none : entries_between (end_of_marks l.marks) m.spool.head m.spool.begin m.spool.entries ≡ [] =
    none_between (end_of_marks l.marks) m.spool.head m.spool.begin m.spool.entries (spool_full w i n m.spool f) (omega (arith, head_low w i n m.spool f, same_end l w s)) in
    let same : grown_by m.spool (l.marks ++ opened l.top r.epoch m.spool) ≡ l.marks = ap (λ x. grown_by m.spool (l.marks ++ x)) calm ∙ ap (grown_by m.spool) (append-nil l.marks) ∙ ap (λ x. l.marks ++ x) none ∙ append-nil l.marks in
    record { top = omega (arith, s.top, low); list = ap (plain_of []) same ∙ s.list }
  where
    not_less : (a b : ℕ) → b ≤ a → nat_lt a b ≡ false
    not_less a b l = elim (cases_Bool (nat_lt a b)) [ inl t ↦ absurd (let z = ltb-true a b t in omega arith) | inr t ↦ t ]

-- ---- an open primary adds

module _ (w v : World) (i : Inv w) (k : Inv v) (grows : Grows i.g k.g) (n : ℕ) (m : Member) (r : full_routes.Route) (held : List (List ℕ × ℕ)) (s : reduced.Route) (others : List (ℕ × ℕ)) (queue : List ℕ)
    (part : (node_at v.state.nodes n).part ≡ reduced.Open s others queue) (epoch : s.epoch ≡ r.epoch) (fits : Fits m.spool (node_at v.state.nodes n).spool (node_at v.state.nodes n).head)
    (journal : v.journal ≡ world.grown w.journal (node_at v.state.nodes n) (node_at v.state.nodes n).part) (top : v.top ≡ world.risen w.top (node_at v.state.nodes n).part) (l : Ledger) (seen : LedgerSeen l w) where
  abbrev front : List Mark
  front = take (node_at v.state.nodes n).head (node_at v.state.nodes n).spool

  abbrev size : ℕ
  size = length w.journal

  journal_is : v.journal ≡ w.journal ++ drop size front
  journal_is = journal ∙ ap (λ p. world.grown w.journal (node_at v.state.nodes n) p) part

  top_is : v.top ≡ max w.top s.epoch
  top_is = top ∙ ap (λ p. world.risen w.top p) part

  head_is : length front ≡ (node_at v.state.nodes n).head
  head_is = len_take (node_at v.state.nodes n).head (node_at v.state.nodes n).spool fits.heads.within

  end_is : m.spool.head ≡ end_of_marks front
  end_is = fits.heads.ends

  many : length v.journal ≡ size + (length front - size)
  many = omega (arith, ap length journal_is, length-append w.journal (drop size front), length-drop size front)

  short : length front ≤ size → v.journal ≡ w.journal
  short x = journal_is ∙ ap (λ y. w.journal ++ y) (drop_of_length-le front x) ∙ append-nil w.journal

  long : size < length front → (front ≡ v.journal) × (take size front ≡ w.journal)
  long x =
      let whole : front ≡ v.journal = pre_same (prefixes v k n) (omega (arith, many)) in
      (whole, ap (take size) (whole ∙ journal_is) ∙ take_of w.journal (drop size front))
    where
      take_of : (xs ys : List Mark) → take (length xs) (xs ++ ys) ≡ xs
      take_of [] ys = refl
      take_of (x ∷ xs) ys = ap (λ l. x ∷ l) (take_of xs ys)

  -- the cut is in what was there before
  cut_low : Plain (drop size front) → size < length front → m.spool.begin ≤ end_of_marks w.journal → fits.cut ≤ size
  cut_low p x low = elim (cases_lt size fits.cut) [
    | inr y ↦ y
    | inl y ↦ (let spool = (node_at v.state.nodes n).spool in
        let h = (node_at v.state.nodes n).head in
        let c = min fits.cut h in
        let less : end_of_marks (take size front) < end_of_marks (take c front) = end_less size size c front p (omega arith) (omega (arith, head_is)) (omega (arith, head_is)) in
        let same : take c front ≡ take c spool = take-take c h spool (omega arith) in
        absurd (omega (arith, less, ap end_of_marks same, ap end_of_marks (long x).1, end_more c fits.cut spool (omega arith), fits.begins.ends, low)))
  ]

  -- entries alone: the same for both
  entries_same : Plain (drop size front) → (size < length front → m.spool.begin ≤ end_of_marks w.journal) →
      entries_between (end_of_marks l.marks) m.spool.head m.spool.begin m.spool.entries ≡ drop size front
  entries_same p low = elim (cases_lt size (length front)) [
    | inr x ↦ (none_between (end_of_marks l.marks) m.spool.head m.spool.begin m.spool.entries (spool_full v k n m.spool fits)
        (omega (arith, head_low v k n m.spool fits, ap end_of_marks (short x), same_end l w seen))) ∙ sym (drop_of_length-le front x)
    | inl x ↦ adds m.spool (node_at v.state.nodes n).spool size (node_at v.state.nodes n).head fits l.marks (spool_full v k n m.spool fits) (cut_low p x (low x)) (omega (arith, head_is))
        (same_end l w seen ∙ ap end_of_marks (sym (long x).1 ∙ take-take size (node_at v.state.nodes n).head (node_at v.state.nodes n).spool (omega (arith, head_is))))
  ]

  -- what both lists come to
  comes : (marks : List Mark) → grown_by m.spool (l.marks ++ opened l.top r.epoch m.spool) ≡ l.marks ++ marks → plain_of (registers_from [] w.journal) marks ≡ plain_of (registers_from [] w.journal) (drop size front) →
      LedgerSeen (grown_with l m (full_part.Open r held)) v
  comes marks e p = record {
    top = omega (arith, top_is, seen.top, epoch);
    list = ap (plain_of []) e ∙ adds_same l w marks (drop size front) seen p ∙ ap (plain_of []) (sym journal_is);
  }

  without_reset : opened l.top r.epoch m.spool ≡ [] → Plain (drop size front) → (size < length front → m.spool.begin ≤ end_of_marks w.journal) → LedgerSeen (grown_with l m (full_part.Open r held)) v
  without_reset none p low = comes (entries_between (end_of_marks l.marks) m.spool.head m.spool.begin m.spool.entries)
      (ap (λ x. grown_by m.spool (l.marks ++ x)) none ∙ ap (grown_by m.spool) (append-nil l.marks))
      (ap (plain_of (registers_from [] w.journal)) (entries_same p low))

  -- it goes on
  pub goes_on : k.g.gone n ≡ false → s.epoch ≤ w.top → m.spool.begin ≤ end_of_marks w.journal → LedgerSeen (grown_with l m (full_part.Open r held)) v
  goes_on runs low begin =
      let primary : IsOpen k.K k.g n (node_at v.state.nodes n) s others = subst (λ p. PartOk k.K k.g n (node_at v.state.nodes n) p) part (k.nodes n).part in
      let same : k.g.top ≡ i.g.top = omega (arith, k.top, i.top, top_is, low) in
      let p : Plain (drop size front) = subst (λ j. Plain (drop (length j) front)) i.journal (going_adds w v i k grows n s others primary runs (omega (arith, low, i.top)) same) in
      let no : nat_lt l.top r.epoch ≡ false = not_less l.top r.epoch (omega (arith, seen.top, epoch, low)) in
      without_reset (ap (λ (b : Bool). if b && is_bare m.spool then Reset ∷ [] else []) no) p (λ _. begin)
    where
      not_less : (a b : ℕ) → b ≤ a → nat_lt a b ≡ false
      not_less a b l = elim (cases_Bool (nat_lt a b)) [ inl t ↦ absurd (let z = ltb-true a b t in omega arith) | inr t ↦ t ]

  -- it has just opened, with all that it adopted
  pub opens : (node_at v.state.nodes n).head ≡ length (node_at v.state.nodes n).spool → (node_at v.state.nodes n).spool ≡ i.g.text s.epoch → i.g.made s.epoch ≡ true → w.top < s.epoch → m.spool.begin ≤ end_of_marks w.journal → LedgerSeen (grown_with l m (full_part.Open r held)) v
  opens whole is made above begin =
      let spool = (node_at v.state.nodes n).spool in
      let all : front ≡ spool = ap (λ h. take h spool) whole ∙ take_all (length spool) spool (omega arith) in
      let high : i.g.top < s.epoch = omega (arith, above, i.top) in
      let has : IsPrefix w.journal front = subst (λ y. IsPrefix w.journal y) (sym (all ∙ is)) (subst (λ j. IsPrefix j (i.g.text s.epoch)) i.journal (journal_in i.K i.g i.global s.epoch made high).0) in
      let late : nat_lt l.top r.epoch ≡ true = lt-ltb l.top r.epoch (omega (arith, seen.top, above, epoch)) in
      let by_bare : (b : Bool) → is_bare m.spool ≡ b → opened l.top r.epoch m.spool ≡ (if b then Reset ∷ [] else []) = λ b e. ap (λ (x : Bool). if x && is_bare m.spool then Reset ∷ [] else []) late ∙ ap (λ (x : Bool). if x then Reset ∷ [] else []) e in
      elim (opening_adds i.K i.g i.global s.epoch made high) [
        | inl p ↦ (let plain : Plain (drop size front) = subst (λ y. Plain (drop size y)) (sym (all ∙ is)) (subst (λ j. Plain (drop (length j) (i.g.text s.epoch))) i.journal p) in
            elim (cases_Bool (is_bare m.spool)) [
              | inr e ↦ without_reset (by_bare false e) plain (λ _. begin)
              | inl e ↦ (let both = bare_is m.spool e in
                  let cut : fits.cut ≡ length spool = omega (arith, fits.begins.within, ap length fits.entries, length-drop fits.cut spool, ap (λ (es : List Entry). length (map Added es)) both.0) in
                  let less : length front ≤ size = elim (cases_lt size (length front)) [
                    | inr y ↦ y
                    | inl y ↦ absurd (let z = cut_low plain y begin in omega (arith, cut, ap length all))
                  ] in
                  let done : w.journal ≡ front = pre_same has less in
                  let bare : registers_from [] w.journal ≡ [] = ap (registers_from []) (done ∙ all ∙ sym (take_all (length spool) spool (omega arith)) ∙ ap (λ c. take c spool) (sym cut)) ∙ sym fits.base ∙ both.1 in
                  comes (Reset ∷ [])
                  (ap (λ x. grown_by m.spool (l.marks ++ x)) (by_bare true e) ∙ ap (λ es. (l.marks ++ Reset ∷ []) ++ entries_between (end_of_marks (l.marks ++ Reset ∷ [])) m.spool.head m.spool.begin es) both.0 ∙ append-nil (l.marks ++ Reset ∷ []))
                  (ap (λ g. plain_of g (Reset ∷ [])) bare ∙ sym (ap (plain_of (registers_from [] w.journal)) (drop_of_length-le front less))))
            ])
        | inr p ↦ (let list : spool ≡ w.journal ++ Reset ∷ [] = is ∙ subst (λ j. i.g.text s.epoch ≡ j ++ Reset ∷ []) i.journal p in
            let adds_one : drop size front ≡ Reset ∷ [] = ap (drop size) (all ∙ list) ∙ drop_of w.journal (Reset ∷ []) in
            let cut : fits.cut ≡ length spool = elim (cases_lt fits.cut (length spool)) [
              | inr y ↦ omega (arith, fits.begins.within)
              | inl y ↦ absurd (no_reset m.spool.entries (subst (λ x. HasReset x) fits.entries (subst (λ x. HasReset (drop fits.cut x)) (sym list) (has_last w.journal fits.cut (omega (arith, ap length list, length-append w.journal (Reset ∷ [])))))))
            ] in
            let none : m.spool.entries ≡ [] = empty_map m.spool.entries (sym fits.entries ∙ drop_of_length-le spool (omega (arith, cut))) in
            let base : m.spool.base ≡ [] = fits.base ∙ ap (λ c. registers_from [] (take c spool)) cut ∙ ap (registers_from []) (take_all (length spool) spool (omega arith) ∙ list) ∙ registers_append [] w.journal (Reset ∷ []) in
            let bare : is_bare m.spool ≡ true = ap (λ (es : List Entry). (length es == 0) && (length m.spool.base == 0)) none ∙ ap (λ (b : List Label). length b == 0) base in
            comes (Reset ∷ [])
            (ap (λ x. grown_by m.spool (l.marks ++ x)) (by_bare true bare) ∙ ap (λ es. (l.marks ++ Reset ∷ []) ++ entries_between (end_of_marks (l.marks ++ Reset ∷ [])) m.spool.head m.spool.begin es) none ∙ append-nil (l.marks ++ Reset ∷ []))
            (ap (plain_of (registers_from [] w.journal)) (sym adds_one)))
      ]
    where
      bare_is : (x : Image) → is_bare x ≡ true → (x.entries ≡ []) × (x.base ≡ [])
      bare_is x e = let both = and_parts (length x.entries == 0) (length x.base == 0) e in (none x.entries (eqb-true (length x.entries) 0 both.0), none x.base (eqb-true (length x.base) 0 both.1))
        where
          none : {A : Type 0} (xs : List A) → length xs ≡ 0 → xs ≡ []
          none [] e = refl
          none (x ∷ xs) e = absurd (omega arith)

      drop_of : (xs ys : List Mark) → drop (length xs) (xs ++ ys) ≡ ys
      drop_of [] ys = refl
      drop_of (x ∷ xs) ys = drop_of xs ys

      HasReset : List Mark → Type 0
      HasReset [] = ⊥
      HasReset (Reset ∷ ms) = Unit {0}
      HasReset (Added e ∷ ms) = HasReset ms

      no_reset : (es : List Entry) → HasReset (map Added es) → ⊥
      no_reset [] a = a
      no_reset (e ∷ es) a = no_reset es a

      has_in : (xs : List Mark) → HasReset (xs ++ Reset ∷ [])
      has_in [] = tt
      has_in (Reset ∷ xs) = tt
      has_in (Added e ∷ xs) = has_in xs

      has_last : (xs : List Mark) (c : ℕ) → c < length xs + 1 → HasReset (drop c (xs ++ Reset ∷ []))
      has_last xs zero l = has_in xs
      has_last [] (suc c) l = absurd (omega arith)
      has_last (x ∷ xs) (suc c) l = has_last xs c (omega arith)

      empty_map : (es : List Entry) → map Added es ≡ [] → es ≡ []
      empty_map [] e = refl
      empty_map (x ∷ es) e = absurd (let z = ap length e in omega arith)
