-- The image that a primary takes, and that all adopt it. What counts is that the image caps each earlier synced epoch
-- (`Fit`): the member that reports has left that epoch, and had no more there than its image has, or its own epoch's
-- choice had capped it already (`fit_report`). What the store has does the same where all has stopped (`fit_store`).
use Rattle.gz_lineage.specs.Marks.{Mark, Lawful}
use Rattle.gz_lineage.proofs.Landing.{lawful_nil, lawful_prefix, lawful_push}
use Rattle.std.proofs.Common.{drop_of_length-le, ◌≡◌, ℕ, ◌+◌, ◌<◌, ◌≤◌, List, [], ◌∷◌, ◌++◌, length, take, refl, ap, sym, ◌∙◌, arith, true, false, Option, subst, ◌⊎◌, inl, inr}
use Rattle.gz_lineage.specs.Prefix.{IsPrefix}
use Rattle.gz_lineage.specs.Lists.{In, Each, names as names_of}
use Rattle.gz_lineage.specs.Nodes.{Route, Image, Report, Part, Node, Outcome, Adopting, Syncing, Adopt}
use Rattle.gz_lineage.specs.Rules.{image_of}
use Rattle.gz_lineage.proofs.Prefixes.{pre_refl, pre_len, pre_push, pre_take, pre_trans, pre_both, pre_same, pre_nil, len_take_le, len_take}
use Rattle.gz_lineage.specs.Rules
use Rattle.gz_lineage.specs.Lists
use Rattle.gz_lineage.proofs.Listed.{each_map, slots_empty, full_each, names_slots}
use Rattle.gz_lineage.proofs.Facts.{RouteOk, ImageOk, Copy, ReportOk, ReachOk, AllAdopted, Capped, DeadOk, NamesOk, BornOk, Global, IsAdopting, BodyOk, MessageOk, Kept, SinceAt}
use Rattle.gz_lineage.proofs.History.{Keys, Ghost, IsMember, Grows, Only}
use Rattle.std.proofs.lemmas.Bool.{cond_both, true≢false, cases_eq, cases_lt}
use Rattle.std.proofs.lemmas.List.{take-append-le, length_push, take_all}
use Rattle.gz_lineage.proofs.Frame.{image_up, adopted_up}
use Rattle.gz_lineage.proofs.Moves.{upd_here, upd_other, upd_each, upd_more, set_end, end_here, end_node, end_epoch, end_more, end_frozen, le_same, kept_after, still}
use Rattle.gz_lineage.proofs.Moves.{upd}
use Rattle.gz_lineage.proofs.Members.{to_each_ok}
use Rattle.gz_lineage.proofs.Primary.{less_reach}

-- the spool stays while the others adopt
pub adopting_spool : (n : ℕ) (st : Node) (r : Route) (reached : List (ℕ × Option ℕ)) → (Rules.adopting n st r reached).node.spool ≡ st.spool
adopting_spool n st r reached = cond_both (Lists.full reached) _ _ (λ (o : Outcome). o.node.spool ≡ st.spool) (λ _. refl) (λ _. refl)

-- members have adopted, before it opens
module _ (K : Keys) (g : Ghost) (n : ℕ) (st : Node) (gl : Global K g) (b : BodyOk K g n st) where
  pub like : (p : Part) → BodyOk K g n (record st { part = p })
  like p = record { promised = b.promised; adopted = b.adopted; order = b.order; copy = b.copy; reach = b.reach; member = b.member; image = b.image; later = b.later }

  pub adopting_kept : (r : Route) (reached : List (ℕ × Option ℕ)) → IsAdopting K g n st r reached → Kept K g n (Rules.adopting n st r reached)
  adopting_kept r reached a = cond_both (Lists.full reached) _ _ (Kept K g n)
      (λ x. let lead : K.lead r.epoch ≡ n = a.route.lead ∙ a.mine in
      let every = full_each (λ m k. ReachOk g r.epoch m k × (g.base r.epoch ≤ k)) reached x a.told in
      let others : Each (λ m. ReachOk g r.epoch m (g.base r.epoch)) (K.others r.epoch) =
      rw (a.route.others, ← a.all) (each_map (λ m q. less_reach g r.epoch m q.0 (g.base r.epoch) q.1.1 q.1.0) (names_of reached) every) in
      let end : length st.spool ≡ g.ends n r.epoch = rw a.adopted at b.reach in
      let all : AllAdopted K g r.epoch = record { made = a.made; lead = rw lead (omega (arith, b.adopted, a.adopted), omega (arith, a.base)); others = others } in
      still K g n (record st { part = Syncing r }) _ gl
      (record { body = like (Syncing r); part = record { route = a.route; mine = a.mine; promised = a.promised; adopted = a.adopted; whole = a.whole; base = a.base; everyone = all } })
      ((a.route.known, all), tt) refl)
      (λ _. still K g n (record st { part = Adopting r reached }) [] gl
      (record { body = like (Adopting r reached); part = record { route = a.route; mine = a.mine; promised = a.promised; adopted = a.adopted; whole = a.whole; made = a.made; base = a.base; told = a.told; all = a.all } })
      tt refl)

-- a member that has left epoch s had no more than these entries then
pub record CapBy (K : Keys) (g : Ghost) (s : ℕ) (xs : List Mark) : Type 0 where
  pub by : ℕ
  pub member : IsMember K s by
  pub gone : s < g.prom by
  pub short : g.ends by s ≤ length xs
  pub fits : g.ends by s ≤ length (g.text s)
  pub within : IsPrefix (take (g.ends by s) (g.text s)) xs

pub record CapDead (K : Keys) (g : Ghost) (s : ℕ) (xs : List Mark) : Type 0 where
  pub gone : (m : ℕ) → IsMember K s m → g.gone m ≡ true
  pub top : s ≡ g.top → IsPrefix g.journal xs × (length g.journal ≤ length xs)

-- it is what a member had of this epoch
pub record PickOf (K : Keys) (g : Ghost) (e born : ℕ) (xs : List Mark) : Type 0 where
  pub from : ℕ
  pub less : from < e
  pub enough : K.opened e ≤ from
  pub made : g.made from ≡ true
  pub same : born ≡ g.born from
  pub within : IsPrefix xs (g.text from)

-- the image that a primary takes
pub record Fit (K : Keys) (g : Ghost) (e : ℕ) (image : Image) : Type 0 where
  pub ok : ImageOk g image
  pub law : Lawful image.entries
  pub born : ℕ
  pub whence : 0 < born → BornOk K born e
  pub pick : (born ≡ e) ⊎ PickOf K g e born image.entries
  pub since : 0 < born → ((born ≡ e) × ((names : List Mark) × IsPrefix names g.journal × (image.entries ≡ names ++ Rules.reset ∷ [])))
      ⊎ ((born ≡ e → ⊥) × (g.made born ≡ true) × (g.born born ≡ born) × IsPrefix (take (g.base born) (g.text born)) image.entries × (g.base born ≤ length image.entries))
  pub caps : (s : ℕ) → K.synced s ≡ true → s < e → CapBy K g s image.entries ⊎ CapDead K g s image.entries

-- a report of a member that adopted what was open before
pub fit_report : (K : Keys) (g : Ghost) → Global K g → (e m : ℕ) (q : Report) → ReportOk K g e m q → g.made e ≡ false → K.opened e ≤ q.adopted → Fit K g e q.image
fit_report K g gl e m q ok unmade enough =
    let less : q.adopted < e = (let d : q.adopted ≡ e → ⊥ = (λ x. true≢false (sym ok.copy.made ∙ ap g.made x ∙ unmade)) in omega (arith, ok.bound)) in
    record {
      ok = ok.image;
      law = lawful_prefix q.image.entries (g.text q.adopted) ok.copy.within (gl.lawful q.adopted);
      born = g.born q.adopted;
      whence = λ p. let x = gl.born q.adopted ok.copy.made p in (omega (arith, x.0, less), x.1, x.2);
      pick = inr (record { from = q.adopted; less = less; enough = enough; made = ok.copy.made; same = refl; within = ok.copy.within });
      since = λ p. let x = gl.since q.adopted ok.copy.made p in let y = gl.born q.adopted ok.copy.made p in
          inr (λ z. absurd (omega (arith, z, y.0, less)), x.0, x.1, pre_both x.2 ok.copy.within (omega (arith, len_take_le (g.base (g.born q.adopted)) (g.text (g.born q.adopted)), x.3, ok.copy.base)), omega (arith, x.3, ok.copy.base));
      caps = λ s y l.
          let k : s ≤ q.adopted = omega (arith, gl.opened e s ok.known y l, enough) in
          elim (cases_eq s q.adopted) [
            | inl x ↦ (let z : g.ends m s ≡ length q.image.entries = rw x (sym (ok.reach less)) in
                let w : IsPrefix q.image.entries (g.text s) = rw x ok.copy.within in
                inl (record {
                  by = m;
                  member = rw x (ok.member (let p = (gl.known s (gl.synced s y).0).0 in omega arith));
                  gone = omega (arith, ok.promised);
                  short = omega (arith, z);
                  fits = omega (arith, z, pre_len w);
                  within = rw (z, w.prefix) (pre_refl q.image.entries);
                }))
            | inr x ↦ elim (gl.capped q.adopted s ok.copy.made y (omega arith)) [
              | inl o ↦ inl (record {
                by = o.by;
                member = o.member;
                gone = o.gone;
                short = omega (arith, o.short, ok.copy.base);
                fits = o.fits;
                within = pre_both o.within ok.copy.within (omega (arith, len_take_le (g.ends o.by s) (g.text s), o.short, ok.copy.base));
              })
              | inr o ↦ inr (record {
                gone = o.gone;
                top = λ t. let z = o.top t in (pre_both z.0 ok.copy.within (omega (arith, z.1, ok.copy.base)), omega (arith, z.1, ok.copy.base));
              })
            ]
          ];
    }

-- the journal is a prefix of an epoch's list
pub lawful_journal : (K : Keys) (g : Ghost) → Global K g → Lawful g.journal
lawful_journal K g gl = elim (cases_lt 0 g.top) [
  | inl x ↦ lawful_prefix g.journal (g.text g.top) (gl.top x).within (gl.lawful g.top)
  | inr x ↦ subst Lawful (sym (gl.none_open (omega arith))) lawful_nil
]

-- what the store has, where all else has stopped
pub fit_store : (K : Keys) (g : Ghost) → Global K g → (e : ℕ) (text : List Mark) → K.known e ≡ true → K.dead e ≡ true → NamesOk K g e text → Fit K g e (record { entries = text ++ Rules.reset ∷ []; head = length text })
fit_store K g gl e text known dead a =
    let d : DeadOk K g e = gl.dead e known dead in
    let w = K.low e in
    let floor : K.floor e ≤ length text = a.floor dead in
    let long = text ++ Rules.reset ∷ [] in
    let more : length long ≡ length text + 1 = length_push text Rules.reset in
    let prefix : IsPrefix text long = pre_push (Rules.reset ∷ []) (pre_refl text) in
    record {
      ok = record { fits = omega (arith, more); prefix = rw (take-append-le (length text) text (Rules.reset ∷ []) (omega arith) ∙ take_all (length text) text (omega arith)) a.within };
      law = lawful_push text Rules.reset (lawful_prefix text g.journal a.within (lawful_journal K g gl)) tt;
      born = e;
      whence = λ _. (omega arith, known, dead);
      pick = inl refl;
      since = λ _. inl (refl, (text, a.within, refl));
      caps = λ s y l.
          let k : s ≤ K.opened e = gl.opened e s known y l in
          let last : s ≡ g.top → IsPrefix g.journal long × (length g.journal ≤ length long) = λ t.
          (let z : length g.journal ≤ K.floor e = d.top (omega arith) in
          let v : text ≡ g.journal = pre_same a.within (omega arith) in
          (pre_trans (rw v (pre_refl g.journal)) prefix, omega (arith, more))) in
          elim (cases_lt s w) [
            | inr x ↦ inr (record { gone = λ m i. d.gone s m y x k i; top = last })
            | inl x ↦ (let q = d.real (omega arith) in let wm : g.made w ≡ true = (gl.synced w q.synced).1.made in
                elim (gl.capped w s wm y x) [
                  | inl c ↦ inl (record {
                    by = c.by;
                    member = c.member;
                    gone = c.gone;
                    short = omega (arith, c.short, q.base, more);
                    fits = c.fits;
                    within = pre_trans (pre_both (pre_trans (pre_both c.within (pre_take (g.base w) (g.text w)) (omega (arith, len_take_le (g.ends c.by s) (g.text s), c.short, len_take (g.base w) (g.text w) (gl.base w wm)))) q.within) a.within
                        (omega (arith, len_take_le (g.ends c.by s) (g.text s), c.short, q.base))) prefix;
                  })
                  | inr c ↦ inr (record { gone = c.gone; top = last })
                ])
          ];
    }

-- the chosen image is adopted
module _ (K : Keys) (g : Ghost) (n : ℕ) (st : Node) (gl : Global K g) (b : BodyOk K g n st) (r : Route) (route : RouteOk K r) (mine : r.lead ≡ n)
    (promised : st.promised ≡ r.epoch) (unmade : g.made r.epoch ≡ false) (image : Image) (c : Fit K g r.epoch image) where
  abbrev ends : ℕ → ℕ → ℕ
  ends = set_end g.ends n r.epoch (length image.entries)

  abbrev h : Ghost
  h = record g { adop = upd g.adop n r.epoch; ends = set_end g.ends n r.epoch (length image.entries); text = upd g.text r.epoch image.entries; base = upd g.base r.epoch (length image.entries); made = upd g.made r.epoch true; born = upd g.born r.epoch c.born }

  not_made : (d : ℕ) → g.made d ≡ true → d ≡ r.epoch → ⊥
  not_made d m x = true≢false (sym m ∙ ap g.made x ∙ unmade)

  same_text : (d : ℕ) → g.made d ≡ true → h.text d ≡ g.text d
  same_text d m = upd_other g.text r.epoch image.entries d (not_made d m)

  less : st.adopted < r.epoch
  less = let d = not_made st.adopted b.copy.made in omega (arith, b.order)

  positive : 0 < r.epoch
  positive = (gl.known r.epoch route.known).0

  up : Grows g h
  up = record {
    prom = le_same g.prom;
    adop = upd_more g.adop n r.epoch (omega (arith, b.adopted, less));
    ends = end_more g.ends n r.epoch (length image.entries) (omega (arith, b.later r.epoch less));
    frozen = end_frozen g.ends g.prom n r.epoch (length image.entries) (omega (arith, b.promised, promised));
    text = λ d. upd_each g.text r.epoch image.entries (λ x l. IsPrefix (g.text x) l) (rw (gl.unmade r.epoch unmade) (pre_nil image.entries)) d (λ _. pre_refl (g.text d));
    made = λ d m. (upd_other g.made r.epoch true d (not_made d m) ∙ m, upd_other g.base r.epoch (length image.entries) d (not_made d m), upd_other g.born r.epoch c.born d (not_made d m));
    top = omega arith;
    journal = pre_refl g.journal;
    taken = λ l i. i;
    gone = λ m h. h;
  }

  only : Only K n g h
  only = record {
    node = λ m d. (refl, upd_other g.adop n r.epoch m d, λ x. end_node g.ends n r.epoch (length image.entries) m x d);
    text = λ d x. let y : d ≡ r.epoch → ⊥ = λ z. x (ap K.lead z ∙ route.lead ∙ mine) in
        (upd_other g.text r.epoch image.entries d y, upd_other g.made r.epoch true d y);
    top = λ d. (refl, refl);
  }

  caps : (s : ℕ) → K.synced s ≡ true → s < r.epoch → Capped K h s r.epoch
  caps s y l =
      let sm : g.made s ≡ true = (gl.synced s y).1.made in
      let here : h.text r.epoch ≡ image.entries = upd_here g.text r.epoch image.entries in
      let base : h.base r.epoch ≡ length image.entries = upd_here g.base r.epoch (length image.entries) in
      elim (c.caps s y l) [
        | inl o ↦ (let f : h.ends o.by s ≡ g.ends o.by s = up.frozen o.by s o.gone in
            inl (record {
              by = o.by;
              member = o.member;
              gone = o.gone;
              short = omega (arith, f, o.short, base);
              fits = rw (same_text s sm) (omega (arith, f, o.fits));
              within = rw (same_text s sm, here, f) o.within;
            }))
        | inr o ↦ inr (record { gone = o.gone; top = λ t. rw (here, base) (o.top t) })
      ]

  global : Global K h
  global = record {
    known = gl.known;
    before = gl.before;
    synced = λ s y. let x = gl.synced s y in (x.0, adopted_up K g h up s x.1);
    opened = gl.opened;
    witness = λ e k d l. let x = gl.witness e k d l in (x.0, omega (arith, x.1, up.adop (K.witness e)));
    dead = λ e k d. let x = gl.dead e k d in record {
      gone = x.gone;
      below = x.below;
      top = x.top;
      real = λ p. let y = x.real p in let sm = (gl.synced (K.low e) y.synced).1.made in let f : h.base (K.low e) ≡ g.base (K.low e) = (up.made (K.low e) sm).1 in
          record { synced = y.synced; base = rw f y.base; within = rw (same_text (K.low e) sm, f) y.within };
    };
    capped = λ e s m y l. elim (cases_eq e r.epoch) [
      | inl x ↦ subst (λ d. Capped K h s d) (sym x) (caps s y (omega arith))
      | inr x ↦ (let old : g.made e ≡ true = sym (upd_other g.made r.epoch true e x) ∙ m in
          let sm : g.made s ≡ true = (gl.synced s y).1.made in
          elim (gl.capped e s old y l) [
            | inl o ↦ (let f : h.ends o.by s ≡ g.ends o.by s = up.frozen o.by s o.gone in
                inl (record {
                  by = o.by;
                  member = o.member;
                  gone = o.gone;
                  short = omega (arith, f, o.short, (up.made e old).1);
                  fits = rw (same_text s sm) (omega (arith, f, o.fits));
                  within = rw (same_text s sm, same_text e old, f) o.within;
                }))
            | inr o ↦ inr (record { gone = o.gone; top = λ t. let z = o.top t in (rw (same_text e old) z.0, omega (arith, z.1, (up.made e old).1)) })
          ])
    ];
    base = λ e m. elim (cases_eq e r.epoch) [
      | inl x ↦ rw (x, upd_here g.base r.epoch (length image.entries), upd_here g.text r.epoch image.entries) (omega arith)
      | inr x ↦ (let old : g.made e ≡ true = sym (upd_other g.made r.epoch true e x) ∙ m in rw (same_text e old) (omega (arith, (up.made e old).1, gl.base e old)))
    ];
    made = λ e m p. elim (cases_eq e r.epoch) [
      | inl x ↦ rw x route.known
      | inr x ↦ gl.made e (sym (upd_other g.made r.epoch true e x) ∙ m) p
    ];
    lawful = λ e. elim (cases_eq e r.epoch) [
      | inl x ↦ subst Lawful (sym (ap h.text x ∙ upd_here g.text r.epoch image.entries)) c.law
      | inr x ↦ subst Lawful (sym (upd_other g.text r.epoch image.entries e x)) (gl.lawful e)
    ];
    puts = λ e m. elim (cases_eq e r.epoch) [
      | inl x ↦ rw (x, upd_here g.base r.epoch (length image.entries), upd_here g.text r.epoch image.entries, drop_of_length-le image.entries (pre_len (pre_refl image.entries))) tt
      | inr x ↦ (let old : g.made e ≡ true = sym (upd_other g.made r.epoch true e x) ∙ m in rw (same_text e old, (up.made e old).1) (gl.puts e old))
    ];
    unopened = λ e m l. elim (cases_eq e r.epoch) [
      | inl x ↦ rw (x, upd_here g.base r.epoch (length image.entries), upd_here g.text r.epoch image.entries) (omega arith)
      | inr x ↦ (let old : g.made e ≡ true = sym (upd_other g.made r.epoch true e x) ∙ m in rw (same_text e old) (omega (arith, (up.made e old).1, gl.unopened e old l)))
    ];
    born = λ e m p. elim (cases_eq e r.epoch) [
      | inl x ↦ (let z : h.born e ≡ c.born = rw x (upd_here g.born r.epoch c.born) in rw (z, x) (c.whence (omega (arith, z))))
      | inr x ↦ (let z : h.born e ≡ g.born e = upd_other g.born r.epoch c.born e x in rw z (gl.born e (sym (upd_other g.made r.epoch true e x) ∙ m) (omega (arith, z))))
    ];
    pick = λ e m p. elim (cases_eq e r.epoch) [
      | inl x ↦ (let z : h.born e ≡ c.born = rw x (upd_here g.born r.epoch c.born) in elim c.pick [
        | inl y ↦ inl (z ∙ y ∙ sym x)
        | inr y ↦ inr (record {
          from = y.from;
          less = omega (arith, y.less);
          enough = rw x y.enough;
          made = (up.made y.from y.made).0;
          same = z ∙ y.same ∙ sym (up.made y.from y.made).2;
          within = rw (same_text y.from y.made, x, upd_here g.text r.epoch image.entries) (pre_trans (pre_take (h.base r.epoch) image.entries) y.within);
        })
      ])
      | inr x ↦ (let old : g.made e ≡ true = sym (upd_other g.made r.epoch true e x) ∙ m in let z : h.born e ≡ g.born e = upd_other g.born r.epoch c.born e x in
          elim (gl.pick e old p) [
            | inl y ↦ inl (z ∙ y)
            | inr y ↦ inr (record {
              from = y.from;
              less = y.less;
              enough = y.enough;
              made = (up.made y.from y.made).0;
              same = z ∙ y.same ∙ sym (up.made y.from y.made).2;
              within = rw (same_text y.from y.made, same_text e old, (up.made e old).1) y.within;
            })
          ])
    ];
    birth = λ d m p s. elim (cases_eq d r.epoch) [
      | inl x ↦ (let z : h.born d ≡ c.born = rw x (upd_here g.born r.epoch c.born) in
          let here : take (h.base d) (h.text d) ≡ image.entries = ap (λ y. take (h.base y) (h.text y)) x ∙ ap (λ k. take k (h.text r.epoch)) (upd_here g.base r.epoch (length image.entries))
          ∙ ap (λ t. take (length image.entries) t) (upd_here g.text r.epoch image.entries) ∙ take_all (length image.entries) image.entries (omega arith) in
          elim (c.since (omega (arith, z, s, p))) [
            | inl q ↦ (q.1.0, q.1.1, here ∙ q.1.2)
            | inr q ↦ absurd (q.0 (sym z ∙ s ∙ x))
          ])
      | inr x ↦ (let old : g.made d ≡ true = sym (upd_other g.made r.epoch true d x) ∙ m in
          let o = gl.birth d old p (sym (upd_other g.born r.epoch c.born d x) ∙ s) in
          (o.0, o.1, ap (λ k. take k (h.text d)) (up.made d old).1 ∙ ap (λ t. take (g.base d) t) (same_text d old) ∙ o.2))
    ];
    since = λ e m p. elim (cases_eq e r.epoch) [
      | inl x ↦ (let z : h.born e ≡ c.born = rw x (upd_here g.born r.epoch c.born) in
          elim (c.since (omega (arith, z, p))) [
            | inl q ↦ (let w : h.born e ≡ r.epoch = z ∙ q.0 in
                subst (λ b. SinceAt h.made h.born h.base h.text e b) (sym w) (subst (λ d. SinceAt h.made h.born h.base h.text d r.epoch) (sym x)
                (upd_here g.made r.epoch true, upd_here g.born r.epoch c.born ∙ q.0, pre_take (h.base r.epoch) (h.text r.epoch), omega arith)))
            | inr q ↦ (let u = up.made c.born q.1 in
                subst (λ b. SinceAt h.made h.born h.base h.text e b) (sym z) (subst (λ d. SinceAt h.made h.born h.base h.text d c.born) (sym x) (
                  u.0,
                  u.2 ∙ q.2,
                  subst (λ y. IsPrefix y (h.text r.epoch)) (sym (ap (λ k. take k (h.text c.born)) u.1 ∙ ap (λ t. take (g.base c.born) t) (same_text c.born q.1)))
                      (subst (λ y. IsPrefix (take (g.base c.born) (g.text c.born)) y) (sym (upd_here g.text r.epoch image.entries)) q.3),
                  omega (arith, u.1, q.4, upd_here g.base r.epoch (length image.entries)),
                )))
          ])
      | inr x ↦ (let old : g.made e ≡ true = sym (upd_other g.made r.epoch true e x) ∙ m in
          let z : h.born e ≡ g.born e = upd_other g.born r.epoch c.born e x in
          let o = gl.since e old (omega (arith, z, p)) in
          let u = up.made (g.born e) o.0 in
          subst (λ b. SinceAt h.made h.born h.base h.text e b) (sym z) (
            u.0,
            u.2 ∙ o.1,
            subst (λ y. IsPrefix y (h.text e)) (sym (ap (λ k. take k (h.text (g.born e))) u.1 ∙ ap (λ t. take (g.base (g.born e)) t) (same_text (g.born e) o.0)))
                (subst (λ y. IsPrefix (take (g.base (g.born e)) (g.text (g.born e))) y) (sym (same_text e old)) o.2),
            omega (arith, u.1, o.3, (up.made e old).1),
          ))
    ];
    by_lead = λ e m l. elim (cases_eq e r.epoch) [
      | inl x ↦ rw (x, route.lead, mine) (omega (arith, b.promised, promised))
      | inr x ↦ gl.by_lead e (sym (upd_other g.made r.epoch true e x) ∙ m) l
    ];
    unmade = λ e m. elim (cases_eq e r.epoch) [
      | inl x ↦ absurd (true≢false (sym (upd_here g.made r.epoch true) ∙ ap h.made (sym x) ∙ m))
      | inr x ↦ upd_other g.text r.epoch image.entries e x ∙ gl.unmade e (sym (upd_other g.made r.epoch true e x) ∙ m)
    ];
    nothing = (let x = up.made 0 gl.nothing.0 in (x.0, same_text 0 gl.nothing.0 ∙ gl.nothing.1, x.1 ∙ gl.nothing.2));
    none_open = gl.none_open;
    top = λ l. let t = gl.top l in let tm = (gl.synced g.top t.synced).1.made in record {
      synced = t.synced;
      within = pre_trans t.within (up.text g.top);
      base = omega (arith, (up.made g.top tm).1, t.base);
      reach = λ m i. omega (arith, t.reach m i, up.ends m g.top);
    };
  }

  abbrev new : Part → Node
  new p = record st { adopted = r.epoch; spool = image.entries; head = image.head; part = p }

  new_image : ImageOk h image
  new_image = image_up K g h up image c.ok

  new_copy : Copy K h r.epoch image.entries
  new_copy = record {
    made = upd_here g.made r.epoch true;
    known = λ _. route.known;
    base = rw (upd_here g.base r.epoch (length image.entries)) (omega arith);
    within = rw (upd_here g.text r.epoch image.entries) (pre_refl image.entries);
  }

  new_body : (p : Part) → BodyOk K h n (new p)
  new_body p = record {
    promised = b.promised;
    adopted = sym (upd_here g.adop n r.epoch);
    order = omega arith;
    copy = new_copy;
    reach = sym (end_here g.ends n r.epoch (length image.entries));
    member = λ _. inl (sym mine ∙ sym route.lead);
    image = new_image;
    later = λ d l. end_epoch g.ends n r.epoch (length image.entries) n d (λ y. omega arith) ∙ b.later d (omega (arith, less));
  }

  pub adopts_kept : Kept K g n (Rules.adopts n st r image)
  adopts_kept =
      let base : h.base r.epoch ≡ length image.entries = upd_here g.base r.epoch (length image.entries) in
      kept_after K g h n _ _ up only refl refl refl (λ m. refl) texts
      (to_each_ok K h n (Adopt r.epoch image) r.others (adopt_each r.others (λ m i. inr (rw route.others i))))
      (adopting_kept K h n (new st.part) global (new_body st.part) r (Lists.slots_for r.others) (record {
        route = route;
        mine = mine;
        promised = promised;
        adopted = refl;
        whole = sym (upd_here g.text r.epoch image.entries);
        made = upd_here g.made r.epoch true;
        base = base;
        told = slots_empty _ r.others;
        all = names_slots ℕ r.others;
      }))
    where
      texts : (d : ℕ) → (h.text d ≡ g.text d) ⊎ (h.text d ≡ (Rules.adopting n (new st.part) r (Lists.slots_for r.others)).node.spool)
      texts d = elim (cases_eq d r.epoch) [
        | inl x ↦ inr (ap h.text x ∙ upd_here g.text r.epoch image.entries ∙ sym (adopting_spool n (new st.part) r (Lists.slots_for r.others)))
        | inr x ↦ inl (upd_other g.text r.epoch image.entries d x)
      ]

      adopt_each : (ms : List ℕ) → ((m : ℕ) → In m ms → IsMember K r.epoch m) → Each (λ m. MessageOk K h n m (Adopt r.epoch image)) ms
      adopt_each [] f = tt
      adopt_each (m ∷ ms) f = ((route.known, f m (inl refl), new_copy, sym (upd_here g.base r.epoch (length image.entries)), new_image), adopt_each ms (λ k i. f k (inr i)))
