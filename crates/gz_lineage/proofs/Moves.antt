-- Steps of history: a broker's own numbers and its epochs' lists move on (`moved`, `global_moved`), the journal grows to
-- what a primary has (`opened_to`), and what one part of a rule keeps is put behind another (`kept_after`).
use Rattle.gz_lineage.specs.Marks.{Mark, Lawful}
use Rattle.std.proofs.Common.{◌≡◌, ℕ, ◌<◌, ◌≤◌, List, [], ◌++◌, length, drop, refl, ap, sym, ◌∙◌, arith, true, false, eqb, subst, ◌⊎◌, inl, inr}
use Rattle.gz_lineage.specs.Prefix.{IsPrefix}
use Rattle.gz_lineage.specs.Nodes.{Part, Node, Letter, Outcome, Closed, Opening, Adopting, Syncing, Open}
use Rattle.gz_lineage.specs.Rules.{image_of}
use Rattle.gz_lineage.specs.World.{grown, risen}
use Rattle.gz_lineage.proofs.Prefixes.{pre_refl, pre_len, pre_trans, pre_take_of}
use Rattle.gz_lineage.specs.Rules
use Rattle.gz_lineage.proofs.Listed.{each_append}
use Rattle.gz_lineage.proofs.Facts.{Plain, Global, NodeOk, LetterOk, AllOk, Kept}
use Rattle.gz_lineage.proofs.History.{Keys, Ghost, Grows, Only}
use Rattle.std.proofs.lemmas.Bool.{eqb-true, eqb-false, cond_both, cases_eq}
use Rattle.std.proofs.lemmas.List.{append-nil, take-append-drop}
use Rattle.gz_lineage.proofs.Frame.{grows_refl, grows_trans, only_refl, only_trans, adopted_up, letters_up}
use Rattle.std.specs.Prelude.{◌==◌, if◌then◌else◌}
use Rattle.std.proofs.Math.ListN.{drop_of_length-le}

abbrev pub upd : {A : Type 0} → (ℕ → A) → ℕ → A → ℕ → A
upd f n v = λ m. if m == n then v else f m

pub upd_here : {A : Type 0} (f : ℕ → A) (n : ℕ) (v : A) → upd f n v n ≡ v
upd_here f n v = cond_both (eqb n n) v (f n) (λ r. r ≡ v) (λ _. refl) (λ e. absurd (eqb-false n n e refl))

pub upd_other : {A : Type 0} (f : ℕ → A) (n : ℕ) (v : A) (m : ℕ) → (m ≡ n → ⊥) → upd f n v m ≡ f m
upd_other f n v m d = cond_both (eqb m n) v (f m) (λ r. r ≡ f m) (λ e. absurd (d (eqb-true m n e))) (λ _. refl)

-- what holds of the new value and of each old one
pub upd_each : {A : Type 0} (f : ℕ → A) (n : ℕ) (v : A) (P : ℕ → A → Type 0) → P n v → (m : ℕ) → ((m ≡ n → ⊥) → P m (f m)) → P m (upd f n v m)
upd_each f n v P here m there = cond_both (eqb m n) v (f m) (P m) (λ e. let d : m ≡ n = eqb-true m n e in subst (λ k. P k v) (sym d) here) (λ e. there (eqb-false m n e))

-- node n's end in epoch e
abbrev pub set_end : (ℕ → ℕ → ℕ) → ℕ → ℕ → ℕ → ℕ → ℕ → ℕ
set_end f n e v = upd f n (upd (f n) e v)

pub end_here : (f : ℕ → ℕ → ℕ) (n e v : ℕ) → set_end f n e v n e ≡ v
end_here f n e v = ap (λ (h : ℕ → ℕ). h e) (upd_here f n (upd (f n) e v)) ∙ upd_here (f n) e v

pub end_node : (f : ℕ → ℕ → ℕ) (n e v m d : ℕ) → (m ≡ n → ⊥) → set_end f n e v m d ≡ f m d
end_node f n e v m d x = ap (λ (h : ℕ → ℕ). h d) (upd_other f n (upd (f n) e v) m x)

pub end_epoch : (f : ℕ → ℕ → ℕ) (n e v m d : ℕ) → (d ≡ e → ⊥) → set_end f n e v m d ≡ f m d
end_epoch f n e v m d x = upd_each f n (upd (f n) e v) (λ k (h : ℕ → ℕ). h d ≡ f k d) (upd_other (f n) e v d x) m (λ _. refl)

pub end_more : (f : ℕ → ℕ → ℕ) (n e v : ℕ) → f n e ≤ v → (m d : ℕ) → f m d ≤ set_end f n e v m d
end_more f n e v l m d = upd_each f n (upd (f n) e v) (λ k (h : ℕ → ℕ). f k d ≤ h d)
    (upd_each (f n) e v (λ k x. f n k ≤ x) l d (λ _. omega arith)) m (λ _. omega arith)

-- an epoch below what n promised is not touched
pub end_frozen : (f : ℕ → ℕ → ℕ) (prom : ℕ → ℕ) (n e v : ℕ) → prom n ≤ e → (m d : ℕ) → d < prom m → set_end f n e v m d ≡ f m d
end_frozen f prom n e v l m d x = elim (cases_eq m n) [
  | inl y ↦ end_epoch f n e v m d (λ z. let w : prom m ≡ prom n = ap prom y in omega arith)
  | inr y ↦ end_node f n e v m d y
]

pub upd_more : (f : ℕ → ℕ) (n v : ℕ) → f n ≤ v → (m : ℕ) → f m ≤ upd f n v m
upd_more f n v l m = upd_each f n v (λ k x. f k ≤ x) l m (λ _. omega arith)

-- the nodes' own numbers and the primaries' texts move on
abbrev pub moved : Ghost → (ℕ → ℕ) → (ℕ → ℕ) → (ℕ → ℕ → ℕ) → (ℕ → List Mark) → Ghost
moved g prom adop ends text = record g { prom = prom; adop = adop; ends = ends; text = text }

pub grows_moved : (g : Ghost) (prom adop : ℕ → ℕ) (ends : ℕ → ℕ → ℕ) (text : ℕ → List Mark) →
    ((m : ℕ) → g.prom m ≤ prom m) → ((m : ℕ) → g.adop m ≤ adop m) → ((m e : ℕ) → g.ends m e ≤ ends m e) →
    ((m e : ℕ) → e < g.prom m → ends m e ≡ g.ends m e) → ((e : ℕ) → IsPrefix (g.text e) (text e)) → Grows g (moved g prom adop ends text)
grows_moved g prom adop ends text p a e f t = record {
  prom = p;
  adop = a;
  ends = e;
  frozen = f;
  text = t;
  made = λ e h. (h, refl, refl);
  top = omega arith;
  journal = pre_refl g.journal;
  taken = λ l i. i;
  gone = λ m h. h;
}

pub le_same : (f : ℕ → ℕ) (m : ℕ) → f m ≤ f m
le_same f m = omega arith

pub only_moved : (K : Keys) (n : ℕ) (g : Ghost) (prom adop : ℕ → ℕ) (ends : ℕ → ℕ → ℕ) (text : ℕ → List Mark) →
    ((m : ℕ) → (m ≡ n → ⊥) → (prom m ≡ g.prom m) × (adop m ≡ g.adop m) × ((e : ℕ) → ends m e ≡ g.ends m e)) →
    ((e : ℕ) → (K.lead e ≡ n → ⊥) → text e ≡ g.text e) → Only K n g (moved g prom adop ends text)
only_moved K n g prom adop ends text a t = record { node = a; text = λ e d. (t e d, refl); top = λ d. (refl, refl) }

pub global_moved : (K : Keys) (g : Ghost) (prom adop : ℕ → ℕ) (ends : ℕ → ℕ → ℕ) (text : ℕ → List Mark) →
    Grows g (moved g prom adop ends text) → ((e : ℕ) → g.made e ≡ false → text e ≡ []) → (text 0 ≡ []) →
    ((e : ℕ) → g.made e ≡ true → Plain (drop (g.base e) (text e))) → ((e : ℕ) → g.made e ≡ true → g.top < e → length (text e) ≤ g.base e) → ((e : ℕ) → Lawful (text e)) → Global K g → Global K (moved g prom adop ends text)
global_moved K g prom adop ends text up unmade zero_text puts unopened lawful a =
    let h = moved g prom adop ends text in
    record {
      known = a.known;
      before = a.before;
      synced = λ s y. let x = a.synced s y in (x.0, adopted_up K g h up s x.1);
      opened = a.opened;
      witness = λ e k d l. let x = a.witness e k d l in (x.0, omega (arith, x.1, up.adop (K.witness e)));
      dead = λ e k d. let x = a.dead e k d in record {
        gone = x.gone;
        below = x.below;
        top = x.top;
        real = λ p. let y = x.real p in let sm = (a.synced (K.low e) y.synced).1.made in
            record { synced = y.synced; base = y.base; within = rw (pre_take_of (g.base (K.low e)) (up.text (K.low e)) (a.base (K.low e) sm)) y.within };
      };
      capped = λ e s m y l. elim (a.capped e s m y l) [
        | inl c ↦ (let f : ends c.by s ≡ g.ends c.by s = up.frozen c.by s c.gone in
            inl (record {
              by = c.by;
              member = c.member;
              gone = omega (arith, c.gone, up.prom c.by);
              short = rw f c.short;
              fits = rw f (omega (arith, c.fits, pre_len (up.text s)));
              within = rw (f, pre_take_of (g.ends c.by s) (up.text s) c.fits) (pre_trans c.within (up.text e));
            }))
        | inr c ↦ inr (record { gone = c.gone; top = λ t. let x = c.top t in (pre_trans x.0 (up.text e), x.1) })
      ];
      base = λ e m. omega (arith, a.base e m, pre_len (up.text e));
      made = a.made;
      puts = puts;
      lawful = lawful;
      unopened = unopened;
      born = a.born;
      birth = λ b m p s. let x = a.birth b m p s in (x.0, x.1, pre_take_of (g.base b) (up.text b) (a.base b m) ∙ x.2);
      since = λ e m p. let x = a.since e m p in (x.0, x.1, subst (λ y. IsPrefix y (text e)) (sym (pre_take_of (g.base (g.born e)) (up.text (g.born e)) (a.base (g.born e) x.0))) (pre_trans x.2 (up.text e)), x.3);
      pick = λ e m p. elim (a.pick e m p) [
        | inl x ↦ inl x
        | inr x ↦ inr (record {
          from = x.from;
          less = x.less;
          enough = x.enough;
          made = x.made;
          same = x.same;
          within = rw (pre_take_of (g.base e) (up.text e) (a.base e m)) (pre_trans x.within (up.text x.from));
        })
      ];
      by_lead = λ e m l. omega (arith, a.by_lead e m l, up.prom (K.lead e));
      unmade = unmade;
      nothing = (a.nothing.0, zero_text, a.nothing.2);
      none_open = a.none_open;
      top = λ l. let t = a.top l in record { synced = t.synced; within = pre_trans t.within (up.text g.top); base = t.base; reach = λ m i. omega (arith, t.reach m i, up.ends m g.top) };
    }

-- a journal that grows to what a primary has
abbrev pub opened_to : Ghost → ℕ → List Mark → Ghost
opened_to g top journal = record g { top = top; journal = journal }

-- a node's step after others
pub kept_after : (K : Keys) (g h : Ghost) (n : ℕ) (ls : List Letter) (out : Outcome) → Grows g h → Only K n g h → h.journal ≡ g.journal → h.top ≡ g.top → h.taken ≡ g.taken → ((m : ℕ) → h.gone m ≡ g.gone m) →
    ((e : ℕ) → (h.text e ≡ g.text e) ⊎ (h.text e ≡ out.node.spool)) → AllOk K h ls → Kept K h n out → Kept K g n (Rules.after_sends ls out)
kept_after K g h n ls out up only journal top taken gone texts ok k = record {
  after = k.after;
  grows = grows_trans up k.grows;
  only = only_trans only k.only;
  global = k.global;
  node = k.node;
  sends = each_append (LetterOk K k.after) ls out.sends (letters_up K h k.after k.grows ls ok) k.sends;
  journal = k.journal ∙ ap (λ l. grown l out.node out.node.part) journal;
  top = rw top at k.top;
  taken = k.taken ∙ taken;
  gone = λ m. k.gone m ∙ gone m;
  texts = λ e. elim (k.texts e) [ inl x ↦ elim (texts e) [ inl y ↦ inl (x ∙ y) | inr y ↦ inr (x ∙ y) ] | inr x ↦ inr x ];
}

pub risen_more : (t : ℕ) (p : Part) → t ≤ risen t p
risen_more t Closed = omega arith
risen_more t (Opening r reports names) = omega arith
risen_more t (Adopting r reached) = omega arith
risen_more t (Syncing r) = omega arith
risen_more t (Open r held queue) = omega arith

-- no ghost moves
pub still : (K : Keys) (g : Ghost) (n : ℕ) (st : Node) (ls : List Letter) → Global K g → NodeOk K g n st → AllOk K g ls → g.journal ≡ grown g.journal st st.part → Kept K g n (record { node = st; sends = ls })
still K g n st ls gl ok sends journal = record { after = g; grows = grows_refl g; only = only_refl K n g; global = gl; node = ok; sends = sends; journal = journal; top = risen_more g.top st.part; taken = refl; gone = λ m. refl; texts = λ e. inl refl }

pub grown_short : (xs ys : List Mark) → IsPrefix ys xs → xs ++ drop (length xs) ys ≡ xs
grown_short xs ys p = ap (λ l. xs ++ l) (drop_of_length-le ys (pre_len p)) ∙ append-nil xs

pub grown_long : (xs ys : List Mark) → IsPrefix xs ys → xs ++ drop (length xs) ys ≡ ys
grown_long xs ys p = ap (λ l. l ++ drop (length xs) ys) (sym p.prefix) ∙ take-append-drop (length xs) ys
