-- Entries that are sent again, entry by entry and member by member.
use Rattle.std.proofs.Common.{◌≡◌, ℕ, ◌+◌, ◌<◌, ◌≤◌, List, [], ◌∷◌, ◌++◌, length, drop, get_or, nat_le, nat_lt, refl, ap, sym, ◌∙◌, arith, append_assoc}
use Rattle.std.specs.Prelude.{if◌then◌else◌}
use Rattle.std.proofs.lemmas.Bool.{le-leb, leb-true, cond_both}
use Rattle.std.proofs.lemmas.List.{drop_more}
use Rattle.gz_label.specs.declared.entry.Entry.{Entry}
use Rattle.gz_wire.specs.declared.msg.Msg.TheVariants.{Replicate}
use Rattle.gz_wire.specs.declared.msg.Send.{Send}
use Rattle.gz_spool.specs.Spools.{placed_from, spool_end}
use Rattle.gz_replica.specs.Member.{Member, send}
use Rattle.gz_replica.specs.Resending.{entries_behind, entries_to}

-- an entry from the offset on is sent
pub entry_sent : (done : List Send) (j to : List ℕ) (epoch head offset at : ℕ) (es : List Entry) (i : ℕ) (e : Entry) → i < length es → e ≡ get_or es i e → offset ≤ at
    → (done ++ send to (Replicate j epoch at e head) ∷ []) ++ entries_to j epoch head to (placed_from offset (at + length e.bytes) (drop (i + 1) es))
    ≡ done ++ entries_to j epoch head to (placed_from offset at (drop i es))
entry_sent done j to epoch head offset at es i e within is behind =
    let one : placed_from offset at (e ∷ drop (i + 1) es) ≡ (at, e) ∷ placed_from offset (at + length e.bytes) (drop (i + 1) es) = rw (le-leb offset at behind) refl in
    append_assoc done (send to (Replicate j epoch at e head) ∷ []) (entries_to j epoch head to (placed_from offset (at + length e.bytes) (drop (i + 1) es)))
    ∙ ap (λ (ps : List (ℕ × Entry)). done ++ entries_to j epoch head to ps) (sym one)
    ∙ ap (λ (d : Entry). done ++ entries_to j epoch head to (placed_from offset at (d ∷ drop (i + 1) es))) is
    ∙ ap (λ (ds : List Entry). done ++ entries_to j epoch head to (placed_from offset at ds)) (sym (drop_more es i e within))

-- one before it isn't
pub entry_passed : (j to : List ℕ) (epoch head offset at : ℕ) (es : List Entry) (i : ℕ) (e : Entry) → i < length es → e ≡ get_or es i e → at < offset
    → entries_to j epoch head to (placed_from offset (at + length e.bytes) (drop (i + 1) es)) ≡ entries_to j epoch head to (placed_from offset at (drop i es))
entry_passed j to epoch head offset at es i e within is before =
    let one : placed_from offset at (e ∷ drop (i + 1) es) ≡ placed_from offset (at + length e.bytes) (drop (i + 1) es) =
    cond_both (nat_le offset at) _ _ (λ (ps : List (ℕ × Entry)). ps ≡ placed_from offset (at + length e.bytes) (drop (i + 1) es)) (λ t. absurd (let h = leb-true offset at t in omega arith)) (λ _. refl) in
    ap (λ (ps : List (ℕ × Entry)). entries_to j epoch head to ps) (sym one)
    ∙ ap (λ (d : Entry). entries_to j epoch head to (placed_from offset at (d ∷ drop (i + 1) es))) is
    ∙ ap (λ (ds : List Entry). entries_to j epoch head to (placed_from offset at ds)) (sym (drop_more es i e within))

-- one more member
pub behind_left : (done : List Send) (j : List ℕ) (epoch : ℕ) (m : Member) (ps : List (List ℕ × ℕ)) (i : ℕ) (p : List ℕ × ℕ) → i < length ps → p ≡ get_or ps i p
    → (done ++ (if nat_lt p.1 (spool_end m.spool) then entries_to j epoch m.spool.head p.0 (placed_from p.1 m.spool.begin m.spool.entries) else [])) ++ entries_behind j epoch m (drop (i + 1) ps)
    ≡ done ++ entries_behind j epoch m (drop i ps)
behind_left done j epoch m ps i p within is =
    append_assoc done (if nat_lt p.1 (spool_end m.spool) then entries_to j epoch m.spool.head p.0 (placed_from p.1 m.spool.begin m.spool.entries) else []) (entries_behind j epoch m (drop (i + 1) ps))
    ∙ ap (λ (q : List ℕ × ℕ). done ++ entries_behind j epoch m (q ∷ drop (i + 1) ps)) is
    ∙ ap (λ (qs : List (List ℕ × ℕ)). done ++ entries_behind j epoch m qs) (sym (drop_more ps i p within))
