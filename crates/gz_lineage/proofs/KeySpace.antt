-- The key space and the store take a letter, and a converge writes a route. This is where handover is used: at the
-- birth of an epoch it gives a member that had adopted enough, or the word that all was saved.
use Rattle.std.proofs.Common.{◌≡◌, ℕ, ◌<◌, ◌≤◌, List, [], ◌∷◌, length, refl, ap, sym, ◌∙◌, arith, Bool, true, false, Option, Some, None, eqb, inl, inr}
use Rattle.gz_lineage.specs.Prefix.{IsPrefix}
use Rattle.gz_lineage.specs.Lists.{In}
use Rattle.gz_lineage.specs.Nodes.{Route, Message, Letter, Changed, Txn, TxnOk, TxnNo, Ask, Names, Put}
use Rattle.gz_lineage.specs.Rules.{image_of}
use Rattle.gz_lineage.specs.World.{grown, risen}
use Rattle.gz_lineage.proofs.Prefixes.{pre_take, pre_both, len_take_le}
use Rattle.gz_lineage.specs.Rules
use Rattle.gz_lineage.proofs.Listed.{each_map, each_in, each_append}
use Rattle.gz_lineage.proofs.Facts.{RouteOk, AllAdopted, DeadAt, MessageOk, LetterOk, AllOk}
use Rattle.gz_lineage.proofs.History.{Keys}
use Rattle.std.proofs.lemmas.Bool.{ltb-true, eqb-true, cond_both, and_parts, false≢true, true≢false, cases_eq, cases_lt}
use Rattle.std.specs.Prelude.{nat_lt}
use Rattle.std.proofs.lemmas.List.{append-nil}
use Rattle.gz_lineage.proofs.Frame.{grows_refl, adopted_up, letters_up}
use Rattle.gz_lineage.proofs.Moves.{upd_here, upd_other}
use Rattle.gz_lineage.specs.World
use Rattle.gz_lineage.specs.World.{World as Worlds, State, Moved, Event, Converge, Crash, Write, Deliver, Drop, Flush, Repeat, Renew, Resend, Give, node_at, fresh, grown_all}
use Rattle.gz_lineage.specs.Handover.{IsSaved, HandoverAt}
use Rattle.std.specs.Prelude.{slice_index_or}
use Rattle.std.specs.List.{remove}
use Rattle.gz_lineage.proofs.Members.{to_each_ok, each_all}
use Rattle.gz_lineage.proofs.KeySteps.{KeysGrow, after_sync, sync_grows, sync_global, after_route, route_grows, route_new, route_global, route_k, letters_k, node_k}
use Rattle.std.specs.Prelude.{◌&&◌, not}
use Rattle.gz_lineage.proofs.Invariant.{Inv, Went, each_remove, all_same, all_low, lows, same_top, syncs_more, synced_more, take_ghost, prefixes, takes, takes_went, stays_went}
use Rattle.gz_lineage.proofs.NodeSteps.{step_node_ok}

pub step_keys_ok : (w : Worlds) (i : Inv w) (flight : List Letter) (l : Letter) (b : Message) → AllOk i.K i.g flight → MessageOk i.K i.g l.from l.to b → Went i (World.recorded w (World.step_keys w.state flight l b))
unfolding takes
step_keys_ok w i flight l (Txn e) f a = cond_both (eqb e (World.latest w.state.routes)) _ _ (λ m. Went i (World.recorded w m))
    (λ x. let now : e ≡ i.K.latest = eqb-true e (World.latest w.state.routes) x ∙ sym i.latest in
    let i' = takes w i l flight [] w.state.stored f tt i.stored (omega arith) in
    let all : AllAdopted i.K i'.g e = adopted_up i.K i.g i'.g (take_ghost i.g l) e a.1 in
    let L : Keys = after_sync i.K i'.g i'.global e now a.0 all in
    let up : KeysGrow i.K L = sync_grows i.K i'.g i'.global e now a.0 all in
    let ok : MessageOk L i'.g Rules.keys l.from (TxnOk e) = upd_here i.K.synced e true in
    record {
      grows = take_ghost i.g l;
      texts = λ d. inl refl;
      after = record {
        K = L;
        g = i'.g;
        global = sync_global i.K i'.g i'.global e now a.0 all;
        nodes = λ n. node_k i.K L i'.g up n (node_at w.state.nodes n) (i'.nodes n);
        flight = each_append (LetterOk L i'.g) flight _ (letters_k i.K L i'.g up flight (letters_up i.K i.g i'.g (take_ghost i.g l) flight f)) (ok, tt);
        said = each_append (LetterOk L i'.g) w.said _ (letters_k i.K L i'.g up w.said (letters_up i.K i.g i'.g (take_ghost i.g l) w.said i.said)) (ok, tt);
        taken = i'.taken;
        journal = i'.journal;
        routes = each_map (λ r. route_k i.K L i'.g up r) w.state.routes i.routes;
        latest = i.latest;
        sync = λ s y. elim (cases_eq s e) [
          | inl z ↦ omega arith
          | inr z ↦ (let q = (i.global.known s (i.global.synced s (sym (upd_other i.K.synced e true s z) ∙ y)).0) in omega arith)
        ];
        sync_is = λ _. upd_here i.K.synced e true;
        stored = i'.stored;
        floors = i'.floors;
        gone = i'.gone;
        top = i'.top;
        found = i'.found;
        syncs = λ s y. elim (cases_eq s e) [ inl z ↦ inl z | inr z ↦ inr (i.syncs s (sym (upd_other i.K.synced e true s z) ∙ y)) ];
        synced_of = λ s j p. elim j [ inl z ↦ rw z (upd_here i.K.synced e true) | inr z ↦ up.synced s (i.synced_of s z p) ];
      };
    })
    (λ _. takes_went w i l flight (Rules.letter Rules.keys l.from (TxnNo e) ∷ []) w.state.stored f (tt, tt) i.stored (omega arith))
step_keys_ok w i flight l (Ask e) f a = takes_went w i l flight (Rules.letter Rules.keys l.from (Names e w.state.stored) ∷ []) w.state.stored f
    ((a, record { within = rw i.journal i.stored; floor = λ d. i.floors e a d }), tt) i.stored (omega arith)
step_keys_ok w i flight l (Put text) f a = takes_went w i l flight [] _ f tt
    (cond_both (nat_lt (length w.state.stored) (length text)) text w.state.stored (λ x. IsPrefix x w.journal) (λ _. rw i.journal at a) (λ _. i.stored))
    (cond_both (nat_lt (length w.state.stored) (length text)) text w.state.stored (λ x. length w.state.stored ≤ length x) (λ x. let y = ltb-true (length w.state.stored) (length text) x in omega arith) (λ _. omega arith))
step_keys_ok w i flight l _ f a = takes_went w i l flight [] w.state.stored f tt i.stored (omega arith)

pub delivery_ok : (w : Worlds) (i : Inv w) (k : ℕ) (o : Option Letter) → ((l : Letter) → o ≡ Some l → LetterOk i.K i.g l) → Went i (World.recorded w (World.delivery w.state k o))
delivery_ok w i k None a = stays_went w i w.state.flight i.flight
delivery_ok w i k (Some l) a =
    let f : AllOk i.K i.g (remove w.state.flight k) = each_remove (LetterOk i.K i.g) w.state.flight k i.flight in
    cond_both (eqb l.to Rules.keys) _ _ (λ m. Went i (World.recorded w m))
    (λ _. step_keys_ok w i (remove w.state.flight k) l l.body f (a l refl))
    (λ _. cond_both (slice_index_or w.state.runs l.to false && nat_lt l.to (length w.state.nodes)) _ _ (λ m. Went i (World.recorded w m))
    (λ x. let p = and_parts (slice_index_or w.state.runs l.to false) (nat_lt l.to (length w.state.nodes)) x in step_node_ok w i (remove w.state.flight k) l f (a l refl) p.0 (ltb-true l.to (length w.state.nodes) p.1))
    (λ _. takes_went w i l (remove w.state.flight k) [] w.state.stored f tt i.stored (omega arith)))

-- what Handover says of a route that is written
pub record Opens (w : Worlds) (i : Inv w) (r : Route) : Type 0 where
  pub m : ℕ
  pub dd : Bool
  pub held : dd ≡ false → 0 < r.opened → In m (r.lead ∷ r.others) × (r.opened ≤ i.g.adop m)
  pub saved : dd ≡ true → DeadAt i.K i.g r.opened (length w.state.stored) i.g.top

pub stopped_at : (w : Worlds) (i : Inv w) (m : ℕ) → slice_index_or w.state.runs m false ≡ false → i.g.gone m ≡ true
stopped_at w i m e = i.gone m ∙ ap not e

-- each epoch that may count has stopped, and the journal is in the store
pub saved_at : (w : Worlds) (i : Inv w) → IsSaved w w.state.routes → DeadAt i.K i.g w.state.sync (length w.state.stored) i.g.top
saved_at w i h =
    let stored : length i.g.journal ≤ length w.state.stored = rw i.journal h.1 in
    record {
      gone = λ s m y l k j.
          let f = i.found s (i.global.synced s y).0 in
          let ok : RouteOk i.K f.0 = each_in (RouteOk i.K) w.state.routes f.0 i.routes f.1 in
          let halt = h.0 f.0 f.1 (rw f.2 (i.syncs s y)) (omega (arith, f.2, i.top)) in
          let lead : i.K.lead s ≡ f.0.lead = rw f.2 at ok.lead in
          let others : i.K.others s ≡ f.0.others = rw f.2 at ok.others in
          elim j [
            | inl x ↦ rw (x, lead) (stopped_at w i f.0.lead halt.0)
            | inr x ↦ stopped_at w i m (each_in (λ q. slice_index_or w.state.runs q false ≡ false) f.0.others m halt.1 (rw others at x))
          ];
      below = omega arith;
      real = λ p. let t = i.global.top p in record {
        synced = t.synced;
        base = omega (arith, t.base);
        within = pre_both (pre_take (i.g.base i.g.top) (i.g.text i.g.top)) t.within (omega (arith, t.base, len_take_le (i.g.base i.g.top) (i.g.text i.g.top)));
      };
      top = λ _. stored;
    }

pub opens_of : (w : Worlds) (i : Inv w) (r : Route) → r.opened ≡ w.state.sync → World.latest w.state.routes < r.epoch → HandoverAt (World.recorded w (World.routed w.state r)) (r ∷ w.state.routes) → Opens w i r
opens_of w i r o less (inl z) = record { m = 0; dd = false; held = λ _ l. absurd (omega arith); saved = λ e. absurd (false≢true e) }
opens_of w i r o less (inr (inl z)) = record { m = z.0; dd = false; held = λ _ l. (z.1, omega (arith, z.3, (i.nodes z.0).body.adopted)); saved = λ e. absurd (false≢true e) }
opens_of w i r o less (inr (inr z)) =
    let here : IsSaved w w.state.routes = ((λ q j y l. z.0 q (inr j) (inr y) (rw (all_low w.top w.state.nodes (lows w i)) l)), rw (all_same w.journal w.state.nodes (prefixes w i)) at z.1) in
    record { m = 0; dd = true; held = λ e. absurd (true≢false e); saved = λ _. rw o (saved_at w i here) }

pub routed_ok : (w : Worlds) (i : Inv w) (r : Route) → World.latest w.state.routes < r.epoch → r.opened ≡ w.state.sync → HandoverAt (World.recorded w (World.routed w.state r)) (r ∷ w.state.routes) → Went i (World.recorded w (World.routed w.state r))
routed_ok w i r more o h =
    let sync : (s : ℕ) → i.K.synced s ≡ true → s ≤ r.opened = λ s y. rw o (i.sync s y) in
    let less : i.K.latest < r.epoch = rw i.latest more in
    let q = opens_of w i r o more h in
    let ff = length w.state.stored in
    let ll = i.g.top in
    let old : r.opened ≤ i.K.latest = elim (cases_lt 0 w.state.sync) [
      | inl pos ↦ (let p = i.global.known w.state.sync (i.global.synced w.state.sync (i.sync_is pos)).0 in omega (arith, p.1))
      | inr pos ↦ omega arith
    ] in
    let L : Keys = after_route i.K i.g i.global r less sync old q.m q.dd ff ll q.held q.saved in
    let up : KeysGrow i.K L = route_grows i.K i.g i.global r less sync old q.m q.dd ff ll q.held q.saved in
    let new : RouteOk L r = route_new i.K i.g i.global r less sync old q.m q.dd ff ll q.held q.saved in
    let told : AllOk L i.g (Rules.to_each Rules.keys (Changed r) (r.lead ∷ r.others)) = to_each_ok L i.g Rules.keys (Changed r) (r.lead ∷ r.others) (each_all (λ m. RouteOk L r) (r.lead ∷ r.others) (λ m. new)) in
    record {
      grows = grows_refl i.g;
      texts = λ e. inl refl;
      after = record {
        K = L;
        g = i.g;
        global = route_global i.K i.g i.global r less sync old q.m q.dd ff ll q.held q.saved;
        nodes = λ n. node_k i.K L i.g up n (node_at w.state.nodes n) (i.nodes n);
        flight = each_append (LetterOk L i.g) w.state.flight _ (letters_k i.K L i.g up w.state.flight i.flight) told;
        said = each_append (LetterOk L i.g) w.said _ (letters_k i.K L i.g up w.said i.said) told;
        taken = i.taken ∙ sym (append-nil w.taken);
        journal = i.journal ∙ sym (all_same w.journal w.state.nodes (prefixes w i));
        routes = (new, each_map (λ r. route_k i.K L i.g up r) w.state.routes i.routes);
        latest = refl;
        sync = i.sync;
        sync_is = i.sync_is;
        stored = rw (all_same w.journal w.state.nodes (prefixes w i)) i.stored;
        floors = λ e k d. elim (cases_eq e r.epoch) [
          | inl x ↦ rw (x, upd_here i.K.floor r.epoch ff) (omega arith)
          | inr x ↦ (let kb : i.K.known e ≡ true = sym (upd_other i.K.known r.epoch true e x) ∙ k in let u = up.keep e kb in rw u.6 (i.floors e kb (sym u.5 ∙ d)))
        ];
        gone = i.gone;
        top = same_top w i;
        syncs = syncs_more w i;
        synced_of = synced_more w i;
        found = λ e k. elim (cases_eq e r.epoch) [
          | inl x ↦ (r, inl refl, sym x)
          | inr x ↦ (let f = i.found e (sym (upd_other i.K.known r.epoch true e x) ∙ k) in (f.0, inr f.1, f.2))
        ];
      };
    }
