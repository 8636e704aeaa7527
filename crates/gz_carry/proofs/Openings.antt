-- The rules of a primary until it is open: a route is taken, a member promises, the store tells its end, a member has
-- adopted, the sync key is written, or the key space refuses that.
use Rattle.std.proofs.Common.{◌≡◌, ℕ, ◌<◌, List, [], ◌∷◌, ◌++◌, length, refl, ap, sym, ◌∙◌, arith, eqb, subst, inl, inr, Option, Some, None}
use Rattle.std.specs.Prelude.{map, max, ◌==◌, Bool, true, false, if◌then◌else◌, nat_lt}
use Rattle.std.specs.Str.{bytes_eq}
use Rattle.std.proofs.lemmas.Bool.{eq-eqb, lt-ltb}
use Rattle.gz_wire.specs.declared.msg.Msg.TheVariants as wire
use Rattle.gz_spool.specs.Spools.{spool_end, raised}
use Rattle.gz_replica.specs.Member as full
use Rattle.gz_replica.specs.declared.part.Part.TheVariants as full_part
use Rattle.gz_replica.specs.declared.part.Part as full_parts
use Rattle.gz_replica.specs.declared.part.Route as full_routes
use Rattle.gz_replica.specs.Slots as full_slots
use Rattle.gz_replica.specs.Opening as opening
use Rattle.gz_lineage.specs.Lists as lists
use Rattle.gz_lineage.specs.Lists.{In}
use Rattle.gz_lineage.specs.Marks.{Mark}
use Rattle.gz_lineage.specs.Nodes as reduced
use Rattle.gz_lineage.specs.Rules as rules
use Rattle.gz_lineage.proofs.Listed.{in_append_left}
use Rattle.gz_carry.specs.Seen.{IsNumbering, PlaceSeen, Fits, RouteSeen, OptionSeen, SlotsSeen, HeldSeen, ReportSeen, EndSeen, Anything, PartSeen, MemberSeen, StepSeen}
use Rattle.gz_carry.specs.Histories.{History, IsCopy, PartOf, NodeOf}
use Rattle.gz_carry.proofs.Ends.{end_whole}
use Rattle.gz_carry.proofs.Fitting.{fits_end, fits_raised}
use Rattle.gz_carry.proofs.Sends.{in_right, each_seen, sends_more, step_if}
use Rattle.gz_carry.proofs.Choice.{reported_fill}
use Rattle.gz_carry.proofs.Adopting.{slots_new, adopting_seen, opening_seen}

-- ---- what comes for a name fills the same slot

module _ (num : List ℕ → ℕ) (same : IsNumbering num) where
  -- the first value of a slot stays on both sides
  first_seen : {A B : Type 0} (P : A → B → Type 0) (u : Option A) (t : Option B) (v : A) (w : B) → OptionSeen P u t → P v w → P (full_slots.first_there u v) (lists.first_there t w)
  first_seen P None None v w a b = b
  first_seen P (Some u) (Some t) v w a b = a
  first_seen P None (Some t) v w a b = absurd a
  first_seen P (Some u) None v w a b = absurd a

  -- either branch of a test is seen
  slots_if : {A B : Type 0} (P : A → B → Type 0) (b : Bool) (xs us : full_slots.Slots A) (ys ts : List (ℕ × Option B)) → SlotsSeen num P xs ys → SlotsSeen num P us ts → SlotsSeen num P (if b then xs else us) (if b then ys else ts)
  slots_if P true xs us ys ts a c = a
  slots_if P false xs us ys ts a c = c

  -- slots are seen after a value came for a name
  pub fill_seen : {A B : Type 0} (P : A → B → Type 0) (m : List ℕ) (v : A) (w : B) → P v w → (xs : full_slots.Slots A) (ys : List (ℕ × Option B)) → SlotsSeen num P xs ys → SlotsSeen num P (full_slots.fill m v xs) (lists.fill (num m) w ys)
  fill_seen P m v w a [] [] s = tt
  fill_seen P m v w a (x ∷ xs) (y ∷ ys) s =
      subst (λ b. SlotsSeen num P (full_slots.fill m v (x ∷ xs)) (if b then (y.0, Some (lists.first_there y.1 w)) ∷ ys else y ∷ lists.fill (num m) w ys)) (same m x.0 ∙ ap (λ n. eqb (num m) n) (sym s.0))
      (slots_if P (bytes_eq m x.0) ((x.0, Some (full_slots.first_there x.1 v)) ∷ xs) (x ∷ full_slots.fill m v xs) ((y.0, Some (lists.first_there y.1 w)) ∷ ys) (y ∷ lists.fill (num m) w ys)
      (s.0, first_seen P x.1 y.1 v w s.1 a, s.2) (s.0, s.1, fill_seen P m v w a xs ys s.2))
  fill_seen P m v w a [] (y ∷ ys) s = absurd s
  fill_seen P m v w a (x ∷ xs) [] s = absurd s

-- ---- what comes while a primary opens

module _ (num : List ℕ → ℕ) (j me : List ℕ) (req : ℕ) (m : full.Member) (n : reduced.Node) (seen : MemberSeen num me m n) where
  module _ (same : IsNumbering num) where
    -- a promise, with an image
    promised_at : (h : History) → IsCopy h n.adopted n.spool → (from : List ℕ) (epoch : ℕ) (report : full_slots.Report) (other : reduced.Report) → ReportSeen report other → IsCopy h other.adopted other.image.entries →
        (p : full_parts.Part) (q : reduced.Part) → PartSeen num me n.spool p q → PartOf h n q →
        StepSeen num h.list me (opening.on_promised j req m from epoch report p) (rules.on_promised (num me) n (num from) epoch other q)
    promised_at h own from epoch report other r o (full_part.Opening route list_req reports stored) (reduced.Opening s others names) a ok =
        let goes = opening.opening_at j req m route list_req (full_slots.fill from report reports) stored in
        let step = rules.opening_at (num me) n s (lists.fill (num from) other others) names in
        subst (λ d. StepSeen num h.list me (if epoch == route.epoch then goes else full.idle m) (if epoch == d then step else rules.idle n)) (sym a.0.epoch)
        (step_if num h.list me (epoch == route.epoch) goes (full.idle m) step (rules.idle n)
        (λ _. opening_seen num j me h.list req route s a.0 h m n seen own list_req (full_slots.fill from report reports) (lists.fill (num from) other others)
        (fill_seen num same ReportSeen from report other r reports others a.1)
        (reported_fill h (num from) other others o ok.told) stored names a.2)
        (λ _. record { member = seen; sends = tt }))
    promised_at h own from epoch report other r o (full_part.Opening route list_req reports stored) reduced.Closed a ok = absurd a
    promised_at h own from epoch report other r o (full_part.Opening route list_req reports stored) (reduced.Adopting s reached) a ok = absurd a
    promised_at h own from epoch report other r o (full_part.Opening route list_req reports stored) (reduced.Syncing s) a ok = absurd a
    promised_at h own from epoch report other r o (full_part.Opening route list_req reports stored) (reduced.Open s held queue) a ok = absurd a
    promised_at h own from epoch report other r o full_part.Closed (reduced.Opening s others names) a ok = absurd a
    promised_at h own from epoch report other r o (full_part.Adopting route reached) (reduced.Opening s others names) a ok = absurd a
    promised_at h own from epoch report other r o (full_part.Syncing route list_req) (reduced.Opening s others names) a ok = absurd a
    promised_at h own from epoch report other r o (full_part.Open route held) (reduced.Opening s others names) a ok = absurd a
    promised_at h own from epoch report other r o p q a ok = record { member = seen; sends = tt }

    -- whatever the part is
    pub on_promised_seen : (h : History) → NodeOf h n → (from : List ℕ) (epoch : ℕ) (report : full_slots.Report) (other : reduced.Report) → ReportSeen report other → IsCopy h other.adopted other.image.entries →
        StepSeen num h.list me (opening.on_promised j req m from epoch report m.part) (rules.on_promised (num me) n (num from) epoch other n.part)
    on_promised_seen h ok from epoch report other r o = promised_at h ok.spool from epoch report other r o m.part n.part seen.part ok.part

    -- a member has adopted
    adopted_at : (lists_of : ℕ → List Mark) (from : List ℕ) (epoch end k : ℕ) (p : full_parts.Part) (q : reduced.Part) → PartSeen num me n.spool p q →
        StepSeen num lists_of me (opening.on_adopted j req m from epoch end p) (rules.on_adopted (num me) n (num from) epoch k q)
    adopted_at lists_of from epoch end k (full_part.Adopting route reached) (reduced.Adopting s others) a =
        let goes = opening.adopting j req m route (full_slots.fill from end reached) in
        let step = rules.adopting (num me) n s (lists.fill (num from) k others) in
        subst (λ d. StepSeen num lists_of me (if epoch == route.epoch then goes else full.idle m) (if epoch == d then step else rules.idle n)) (sym a.0.epoch)
        (step_if num lists_of me (epoch == route.epoch) goes (full.idle m) step (rules.idle n)
        (λ _. adopting_seen num j me lists_of req route s a.0 m n (full_slots.fill from end reached) (lists.fill (num from) k others) seen.promised seen.adopted seen.spool
        (fill_seen num same Anything from end k tt reached others a.1))
        (λ _. record { member = seen; sends = tt }))
    adopted_at lists_of from epoch end k (full_part.Adopting route reached) reduced.Closed a = absurd a
    adopted_at lists_of from epoch end k (full_part.Adopting route reached) (reduced.Opening s others names) a = absurd a
    adopted_at lists_of from epoch end k (full_part.Adopting route reached) (reduced.Syncing s) a = absurd a
    adopted_at lists_of from epoch end k (full_part.Adopting route reached) (reduced.Open s held queue) a = absurd a
    adopted_at lists_of from epoch end k full_part.Closed (reduced.Adopting s others) a = absurd a
    adopted_at lists_of from epoch end k (full_part.Opening route list_req reports stored) (reduced.Adopting s others) a = absurd a
    adopted_at lists_of from epoch end k (full_part.Syncing route list_req) (reduced.Adopting s others) a = absurd a
    adopted_at lists_of from epoch end k (full_part.Open route held) (reduced.Adopting s others) a = absurd a
    adopted_at lists_of from epoch end k p q a = record { member = seen; sends = tt }

    -- whatever the part is
    pub on_adopted_seen : (lists_of : ℕ → List Mark) (from : List ℕ) (epoch end k : ℕ) →
        StepSeen num lists_of me (opening.on_adopted j req m from epoch end m.part) (rules.on_adopted (num me) n (num from) epoch k n.part)
    on_adopted_seen lists_of from epoch end k = adopted_at lists_of from epoch end k m.part n.part seen.part

  -- an answer of the store to the request of this part
  store_end_at : (h : History) → IsCopy h n.adopted n.spool → (end answered : ℕ) (text : List Mark) → EndSeen end text → (route : full_routes.Route) (reports : full_slots.Slots full_slots.Report) (q : reduced.Part) →
      PartSeen num me n.spool (full_part.Opening route answered reports None) q → PartOf h n q →
      StepSeen num h.list me (opening.on_store_end j req m end answered (full_part.Opening route answered reports None)) (rules.on_names (num me) n route.epoch text q)
  store_end_at h own end answered text e route reports (reduced.Opening s others None) a ok =
      let x : (answered == answered) ≡ true = eq-eqb answered answered refl in
      let y : (route.epoch == s.epoch) ≡ true = eq-eqb route.epoch s.epoch (sym a.0.epoch) in
      rw (x, y) (opening_seen num j me h.list req route s a.0 h m n seen own answered reports others a.1 ok.told (Some end) (Some text) e)
  store_end_at h own end answered text e route reports (reduced.Opening s others (Some names)) a ok = absurd a.2
  store_end_at h own end answered text e route reports reduced.Closed a ok = absurd a
  store_end_at h own end answered text e route reports (reduced.Adopting s reached) a ok = absurd a
  store_end_at h own end answered text e route reports (reduced.Syncing s) a ok = absurd a
  store_end_at h own end answered text e route reports (reduced.Open s held queue) a ok = absurd a

  -- whatever the node's part is
  pub on_store_end_seen : (h : History) → NodeOf h n → (end answered : ℕ) (text : List Mark) → EndSeen end text → (route : full_routes.Route) (reports : full_slots.Slots full_slots.Report) → m.part ≡ full_part.Opening route answered reports None →
      StepSeen num h.list me (opening.on_store_end j req m end answered m.part) (rules.on_names (num me) n route.epoch text n.part)
  on_store_end_seen h ok end answered text e route reports p =
      subst (λ x. StepSeen num h.list me (opening.on_store_end j req m end answered x) (rules.on_names (num me) n route.epoch text n.part)) (sym p)
      (store_end_at h ok.spool end answered text e route reports n.part (subst (λ x. PartSeen num me n.spool x n.part) p seen.part) ok.part)

  -- a route above what was promised
  pub open_route_seen : (lists_of : ℕ → List Mark) (r : full_routes.Route) (s : reduced.Route) → RouteSeen num me r s → m.promised < r.epoch →
      StepSeen num lists_of me (opening.open_route j req m r) (rules.on_changed (num me) n s)
  open_route_seen lists_of r s a less =
      let x : (num me == s.lead) ≡ true = eq-eqb (num me) s.lead (sym a.lead) in
      let y : nat_lt n.promised s.epoch ≡ true = lt-ltb n.promised s.epoch (omega (arith, seen.promised, a.epoch)) in
      let said = rules.to_each (num me) (reduced.Promise s.epoch) s.others in
      let ask = rules.letter (num me) rules.keys (reduced.Ask s.epoch) in
      let closing = rules.closing (num me) s.epoch n.part in
      let all = closing ++ ask ∷ said in
      rw (x, y) (record {
        member = record {
          promised = a.epoch;
          adopted = seen.adopted;
          spool = seen.spool;
          part = (a, subst (λ ms. SlotsSeen num ReportSeen (full_slots.slots_for r.others) (lists.slots_for ms)) (sym a.others) (slots_new num ReportSeen r.others), tt);
        };
        sends = sends_more num lists_of all (all ++ []) me (λ l i. in_append_left all [] l i) (opening.open_route j req m r).sends (
          (s.epoch, in_right ask closing (ask ∷ said) (inl refl)),
          each_seen num lists_of me (wire.Promise j r.epoch) (reduced.Promise s.epoch) all (λ to i. subst (λ e. In (rules.letter (num me) (num to) (reduced.Promise e)) all) a.epoch i) r.others
              (λ l i. in_right l closing (ask ∷ said) (inr (subst (λ ms. In l (rules.to_each (num me) (reduced.Promise s.epoch) ms)) (sym a.others) i))),
        );
      })

  -- ---- the sync

  -- every other member holds the spool's end
  held_new : (xs : List Mark) (end : ℕ) → PlaceSeen xs end (length xs) → (ms : List (List ℕ)) → HeldSeen num xs (full_slots.all_at end ms) (lists.all_at (length xs) (map num ms))
  held_new xs end e [] = tt
  held_new xs end e (o ∷ ms) = (refl, e, held_new xs end e ms)

  -- the sync key is written
  synced_at : (h : History) (r : full_routes.Route) (sync_req : ℕ) (q : reduced.Part) → PartSeen num me n.spool (full_part.Syncing r sync_req) q → PartOf h n q →
      StepSeen num h.list me (opening.on_synced j m (full_part.Syncing r sync_req)) (rules.on_txn_ok (num me) n r.epoch q)
  synced_at h r sync_req (reduced.Syncing s) a ok =
      let xs = n.spool in
      let x : (r.epoch == s.epoch) ≡ true = eq-eqb r.epoch s.epoch (sym a.epoch) in
      let whole : h.list r.epoch ≡ xs = sym (ok.whole ∙ ap h.list a.epoch) in
      let at : PlaceSeen xs (spool_end m.spool) (length xs) = record { within = omega arith; ends = fits_end m.spool xs n.head seen.spool ∙ sym (end_whole xs) } in
      let top : max n.head (length xs) ≡ length xs = omega (arith, seen.spool.heads.within) in
      let spool : Fits (raised (spool_end m.spool) m.spool) xs (length xs) = subst (λ k. Fits (raised (spool_end m.spool) m.spool) xs k) top (fits_raised m.spool xs n.head (spool_end m.spool) (length xs) seen.spool at) in
      let said = rules.to_each (num me) (reduced.Head r.epoch (length xs)) s.others in
      rw x (record {
        member = record {
          promised = seen.promised;
          adopted = seen.adopted;
          spool = spool;
          part = (a, subst (λ ms. HeldSeen num xs (full_slots.all_at (spool_end m.spool) r.others) (lists.all_at (length xs) ms)) (sym a.others) (held_new xs (spool_end m.spool) at r.others));
        };
        sends = each_seen num h.list me (wire.Head j r.epoch (spool_end m.spool) m.spool.begin) (reduced.Head r.epoch (length xs)) said
            (λ to i. (length xs, i, subst (λ ys. PlaceSeen ys (spool_end m.spool) (length xs)) (sym whole) at))
            r.others (λ l i. subst (λ ms. In l (rules.to_each (num me) (reduced.Head r.epoch (length xs)) ms)) (sym a.others) i);
      })
  synced_at h r sync_req reduced.Closed a ok = absurd a
  synced_at h r sync_req (reduced.Opening s reports names) a ok = absurd a
  synced_at h r sync_req (reduced.Adopting s reached) a ok = absurd a
  synced_at h r sync_req (reduced.Open s held queue) a ok = absurd a

  -- whatever the node's part is
  pub on_synced_seen : (h : History) → NodeOf h n → (r : full_routes.Route) (sync_req : ℕ) → m.part ≡ full_part.Syncing r sync_req →
      StepSeen num h.list me (opening.on_synced j m m.part) (rules.on_txn_ok (num me) n r.epoch n.part)
  on_synced_seen h ok r sync_req p =
      subst (λ x. StepSeen num h.list me (opening.on_synced j m x) (rules.on_txn_ok (num me) n r.epoch n.part)) (sym p)
      (synced_at h r sync_req n.part (subst (λ x. PartSeen num me n.spool x n.part) p seen.part) ok.part)

  -- The key space refuses the sync: the part closes, and the node goes on waiting.
  refused_at : (lists_of : ℕ → List Mark) (p : full_parts.Part) (q : reduced.Part) → n.part ≡ q → PartSeen num me n.spool p q → StepSeen num lists_of me (opening.on_sync_refused m p) (rules.idle n)
  refused_at lists_of (full_part.Syncing r sync_req) (reduced.Syncing s) e a =
      record { member = record { promised = seen.promised; adopted = seen.adopted; spool = seen.spool; part = subst (λ x. PartSeen num me n.spool full_part.Closed x) (sym e) tt }; sends = tt }
  refused_at lists_of (full_part.Syncing r sync_req) reduced.Closed e a = absurd a
  refused_at lists_of (full_part.Syncing r sync_req) (reduced.Opening s reports names) e a = absurd a
  refused_at lists_of (full_part.Syncing r sync_req) (reduced.Adopting s reached) e a = absurd a
  refused_at lists_of (full_part.Syncing r sync_req) (reduced.Open s held queue) e a = absurd a
  refused_at lists_of p q e a = record { member = seen; sends = tt }

  -- whatever the part is
  pub on_sync_refused_seen : (lists_of : ℕ → List Mark) → StepSeen num lists_of me (opening.on_sync_refused m m.part) (rules.idle n)
  on_sync_refused_seen lists_of = refused_at lists_of m.part n.part refl seen.part
