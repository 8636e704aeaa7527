-- Members and nodes, worked out by hand: a spool that was trimmed is seen in the whole list; another entry isn't; and why
-- the rules need a history, since a reset has no bytes.
use Rattle.std.proofs.Common.{◌≡◌, ℕ, List, [], ◌∷◌, refl, ap, arith}
use Rattle.std.specs.Prelude.{codes}
use Rattle.gz_label.specs.declared.entry.Entry.{Entry}
use Rattle.gz_replica.specs.Member.{Member}
use Rattle.gz_replica.specs.declared.part.Part.TheVariants as full_part
use Rattle.gz_lineage.specs.Marks.{Mark, Reset, Added}
use Rattle.gz_lineage.specs.Nodes.{Node}
use Rattle.gz_lineage.specs.Nodes as reduced
use Rattle.gz_carry.specs.Seen.{MemberSeen}
use Rattle.gz_replica.specs.Replicating as replicating
use Rattle.gz_lineage.specs.Rules as rules
use Rattle.gz_carry.proofs.Apart.{entry_seen}
use Rattle.gz_carry.proofs.Fitting.{fits_end}

-- a broker
abbrev pub b1 : List ℕ
b1 = codes "b1"

-- a client's entry of three bytes
abbrev pub entry : ℕ → Entry
entry n = record { attempt = record { node = codes "k"; req = n }; bytes = n ∷ n ∷ n ∷ []; registers = [] }

-- a member of epoch 4 whose spool begins at an offset, and a node of it
abbrev pub member : ℕ → List Entry → ℕ → Member
member begin entries head = record { promised = 4; adopted = 4; spool = record { begin = begin; base = []; entries = entries; head = head }; part = full_part.Closed }

-- a node of that epoch
abbrev pub node : List Mark → ℕ → Node
node spool head = record { promised = 4; adopted = 4; spool = spool; head = head; part = reduced.Closed }

-- the first entry and a reset are in the store, the second one is acknowledged: the cut is behind the reset
trimmed_is_seen : (num : List ℕ → ℕ) → MemberSeen num b1 (member 3 (entry 8 ∷ entry 9 ∷ []) 6) (node (Added (entry 7) ∷ Reset ∷ Added (entry 8) ∷ Added (entry 9) ∷ []) 3)
trimmed_is_seen num = record {
  promised = refl;
  adopted = refl;
  spool = record { cut = 2; begins = record { within = omega arith; ends = refl }; base = refl; entries = refl; heads = record { within = omega arith; ends = refl }; order = omega arith };
  part = tt;
}

-- the member has entry 7 where the node has entry 8
another_is_not : (num : List ℕ → ℕ) → MemberSeen num b1 (member 0 (entry 7 ∷ []) 0) (node (Added (entry 8) ∷ []) 0) → ⊥
another_is_not num seen = differ (entry_seen num b1 (member 0 (entry 7 ∷ []) 0) (node (Added (entry 8) ∷ []) 0) [] [] (entry 7) (entry 8) seen refl refl)
  where
    differ : entry 7 ≡ entry 8 → ⊥
    differ e = absurd (omega (arith, ap (λ (x : Entry). x.attempt.req) e))

-- ---- a reset hides a gap

-- The list of epoch 4 is entry 7, a reset, which is the image, and entry 8. A node that has less than the image, entry 7
-- alone, is behind a gap when entry 8 comes; its member isn't, by its offset. No history has such a node.
abbrev pub j : List ℕ
j = codes "x"

-- before, the member is seen
before_the_gap : (num : List ℕ → ℕ) → MemberSeen num b1 (member 3 [] 3) (node (Added (entry 7) ∷ []) 1)
before_the_gap num = record {
  promised = refl;
  adopted = refl;
  spool = record { cut = 1; begins = record { within = omega arith; ends = refl }; base = refl; entries = refl; heads = record { within = omega arith; ends = refl }; order = omega arith };
  part = tt;
}

-- the member takes the entry
member_takes : (replicating.on_replicate j (member 3 [] 3) (codes "b2") 4 3 (entry 8) 3).member ≡ member 3 (entry 8 ∷ []) 3
member_takes = refl

-- the node refuses it
node_refuses : (rules.on_replicate 1 (node (Added (entry 7) ∷ []) 1) 2 4 2 (Added (entry 8)) 1).node ≡ node (Added (entry 7) ∷ []) 1
node_refuses = refl

-- and the member isn't seen any more
behind_the_gap : (num : List ℕ → ℕ) → MemberSeen num b1 (member 3 (entry 8 ∷ []) 3) (node (Added (entry 7) ∷ []) 1) → ⊥
behind_the_gap num seen = absurd (omega (arith, fits_end (member 3 (entry 8 ∷ []) 3).spool (node (Added (entry 7) ∷ []) 1).spool 1 seen.spool))
