-- The relation of a member and a node tells members apart: what a node has determines its members' ends, heads and
-- registers, and each entry that a spool still has.
use Rattle.std.proofs.Common.{◌≡◌, ℕ, List, [], ◌∷◌, ◌++◌, drop, refl, ap, sym, ◌∙◌, arith, zero, suc}
use Rattle.std.specs.Prelude.{map}
use Rattle.gz_label.specs.declared.entry.Entry.{Entry}
use Rattle.gz_replica.specs.Member.{Member, new_member}
use Rattle.gz_lineage.specs.Marks.{Mark, Added}
use Rattle.gz_lineage.specs.Nodes.{Node}
use Rattle.gz_lineage.specs.World.{fresh}
use Rattle.gz_carry.specs.Seen.{MemberSeen}
use Rattle.gz_carry.specs.Carried.{AreAlike}
use Rattle.gz_carry.proofs.Fitting.{fits_end, fits_registers}

-- a new member is seen in a new node
pub new_seen : (num : List ℕ → ℕ) (me : List ℕ) → MemberSeen num me new_member fresh
new_seen num me = record {
  promised = refl;
  adopted = refl;
  spool = record { cut = 0; begins = record { within = omega arith; ends = refl }; base = refl; entries = refl; heads = record { within = omega arith; ends = refl }; order = omega arith };
  part = tt;
}

-- two members that are seen in one node are alike
pub one_seen : (num : List ℕ → ℕ) (me : List ℕ) (m o : Member) (n : Node) → MemberSeen num me m n → MemberSeen num me o n → AreAlike m o
one_seen num me m o n a b = record {
  promised = sym a.promised ∙ b.promised;
  adopted = sym a.adopted ∙ b.adopted;
  end = fits_end m.spool n.spool n.head a.spool ∙ sym (fits_end o.spool n.spool n.head b.spool);
  head = a.spool.heads.ends ∙ sym b.spool.heads.ends;
  registers = fits_registers m.spool n.spool n.head a.spool ∙ sym (fits_registers o.spool n.spool n.head b.spool);
}

-- lists that are the same end with the same mark
last_at : (xs : List Mark) (y : Mark) (es : List Entry) (a : Entry) → xs ++ y ∷ [] ≡ map Added (es ++ a ∷ []) → y ≡ Added a
last_at [] y [] a e = cc
last_at [] y (z ∷ []) a e = cc
last_at [] y (z ∷ x ∷ es) a e = cc
last_at (x ∷ []) y [] a e = cc
last_at (x ∷ z ∷ xs) y [] a e = cc
last_at (x ∷ xs) y (z ∷ es) a e = last_at xs y es a (rest e)
  where
    rest : x ∷ (xs ++ y ∷ []) ≡ Added z ∷ map Added (es ++ a ∷ []) → xs ++ y ∷ [] ≡ map Added (es ++ a ∷ [])
    rest e = cc

-- and so they do behind a cut that leaves something
last_same : (cut : ℕ) (xs : List Mark) (y : Mark) (es : List Entry) (a : Entry) → drop cut (xs ++ y ∷ []) ≡ map Added (es ++ a ∷ []) → y ≡ Added a
last_same zero xs y es a e = last_at xs y es a e
last_same (suc zero) [] y es a e = none es e
  where
    none : (es : List Entry) → [] ≡ map Added (es ++ a ∷ []) → y ≡ Added a
    none [] e = cc
    none (z ∷ es) e = cc
last_same (suc (suc cut)) [] y es a e = none es e
  where
    none : (es : List Entry) → [] ≡ map Added (es ++ a ∷ []) → y ≡ Added a
    none [] e = cc
    none (z ∷ es) e = cc
last_same (suc cut) (x ∷ xs) y es a e = last_same cut xs y es a e

-- so a spool's last entry is the last of its node's list
pub entry_seen : (num : List ℕ → ℕ) (me : List ℕ) (m : Member) (n : Node) (es : List Entry) (xs : List Mark) (a b : Entry) → MemberSeen num me m n →
    m.spool.entries ≡ es ++ a ∷ [] → n.spool ≡ xs ++ Added b ∷ [] → a ≡ b
entry_seen num me m n es xs a b s e f =
    let at : drop s.spool.cut (xs ++ Added b ∷ []) ≡ map Added (es ++ a ∷ []) = ap (λ ys. drop s.spool.cut ys) (sym f) ∙ s.spool.entries ∙ ap (λ ys. map Added ys) e in
    inner b a (last_same s.spool.cut xs (Added b) es a at)
  where
    inner : (b a : Entry) → Added b ≡ Added a → a ≡ b
    inner b a e = cc
