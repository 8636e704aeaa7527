-- A broker takes a letter: by the rule of its kind (Members, Primary, Opening) its own facts are kept, and all other
-- brokers' facts by the frame, since nothing of theirs has moved.
use Rattle.std.proofs.Common.{◌≡◌, ℕ, ◌<◌, ◌≤◌, List, [], ◌∷◌, ◌++◌, length, refl, ap, sym, ◌∙◌, arith, true, false, subst, inl, inr}
use Rattle.gz_lineage.specs.Prefix.{IsPrefix}
use Rattle.gz_lineage.specs.Lists.{In}
use Rattle.gz_lineage.specs.Nodes.{Node, Message, Letter, Outcome, Changed, Promise, Promised, Adopt, Adopted, TxnOk, TxnNo, Append, Replicate, Held, Head, Names}
use Rattle.gz_lineage.specs.Rules.{image_of}
use Rattle.gz_lineage.specs.World.{grown, risen}
use Rattle.gz_lineage.proofs.Prefixes.{pre_trans}
use Rattle.gz_lineage.specs.Rules
use Rattle.gz_lineage.proofs.Listed.{each_append, in_last}
use Rattle.gz_lineage.proofs.Facts.{Global, NodeOk, MessageOk, LetterOk, AllOk, Kept}
use Rattle.gz_lineage.proofs.History.{Keys, Ghost}
use Rattle.std.proofs.lemmas.Bool.{cases_eq}
use Rattle.gz_lineage.proofs.Frame.{grows_trans, message_up, letters_up, node_other}
use Rattle.gz_lineage.specs.World
use Rattle.gz_lineage.specs.World.{World as Worlds, State, Moved, Event, Converge, Crash, Write, Deliver, Drop, Flush, Repeat, Renew, Resend, Give, node_at, fresh, grown_all}
use Rattle.std.specs.Prelude.{slice_set, slice_index_or}
use Rattle.std.proofs.lemmas.List.{get_or-set_same, get_or-set_other}
use Rattle.gz_lineage.proofs.Members.{idles, keeps_promise, keeps_adopt, keeps_replicate, keeps_head}
use Rattle.gz_lineage.proofs.Primary.{keeps_held, keeps_txn_ok, keeps_txn_no, keeps_append}
use Rattle.gz_lineage.proofs.Reports.{keeps_changed, keeps_promised, keeps_adopted, keeps_names}
use Rattle.std.specs.Prelude.{not}
use Rattle.gz_lineage.proofs.Invariant.{Inv, Went, one_grows, part_low, risen_is, one_rises, lows, syncs_more, synced_more, take_ghost, take_global, take_node, prefixes}

pub keeps_message : (K : Keys) (g : Ghost) (n : ℕ) (st : Node) → Global K g → NodeOk K g n st → g.gone n ≡ false → (l : Letter) → l.to ≡ n → In l g.taken → (b : Message) → l.body ≡ b → MessageOk K g l.from n b → Kept K g n (Rules.take_message n st l.from b)
keeps_message K g n st gl ok runs l to i (Changed r) e a = keeps_changed K g n st gl ok r a
keeps_message K g n st gl ok runs l to i (Promise d) e a = keeps_promise K g n st gl ok l.from d a
keeps_message K g n st gl ok runs l to i (Promised d q) e a = keeps_promised K g n st gl ok.body l.from d q a st.part ok.part (idles K g n st gl ok)
keeps_message K g n st gl ok runs l to i (Adopt d image) e a = keeps_adopt K g n st gl ok l.from d image a
keeps_message K g n st gl ok runs l to i (Adopted d reach) e a = keeps_adopted K g n st gl ok.body l.from d reach
    (record { adopted = a.0; reach = a.1; vouched = (l, i, refl, rw e (refl, omega arith)) }) a.2 st.part ok.part (idles K g n st gl ok)
keeps_message K g n st gl ok runs l to i (TxnOk d) e a = keeps_txn_ok K g n st gl ok.body runs d a st.part ok.part (idles K g n st gl ok)
keeps_message K g n st gl ok runs l to i (TxnNo d) e a = keeps_txn_no K g n st gl ok.body runs d st.part ok.part (idles K g n st gl ok)
keeps_message K g n st gl ok runs l to i (Append x) e a = keeps_append K g n st gl ok.body runs x st.part ok.part (idles K g n st gl ok)
keeps_message K g n st gl ok runs l to i (Replicate d offset x head) e a = keeps_replicate K g n st gl ok l.from d offset x head a
keeps_message K g n st gl ok runs l to i (Held d reach) e a = keeps_held K g n st gl ok.body runs l.from d reach
    (record { adopted = a.0; reach = a.1; vouched = (l, i, refl, rw e (refl, omega arith)) }) st.part ok.part (idles K g n st gl ok)
keeps_message K g n st gl ok runs l to i (Head d h) e a = keeps_head K g n st gl ok d h a
keeps_message K g n st gl ok runs l to i (Names d text) e a = keeps_names K g n st gl ok.body d text a.1 st.part ok.part (idles K g n st gl ok)
keeps_message K g n st gl ok runs l to i _ e a = idles K g n st gl ok

pub step_kept : (w : Worlds) (i : Inv w) (l : Letter) → LetterOk i.K i.g l → slice_index_or w.state.runs l.to false ≡ true →
    Kept i.K (record i.g { taken = i.g.taken ++ l ∷ [] }) l.to (Rules.take_message l.to (node_at w.state.nodes l.to) l.from l.body)
step_kept w i l a runs =
    let g : Ghost = record i.g { taken = i.g.taken ++ l ∷ [] } in
    let st = node_at w.state.nodes l.to in
    keeps_message i.K g l.to st (take_global i.K i.g l i.global) (take_node i.K i.g l l.to st (i.nodes l.to)) (i.gone l.to ∙ ap not runs) l refl (in_last i.g.taken l) l.body refl
    (message_up i.K i.g g (take_ghost i.g l) l.from l.to l.body a)

pub step_journal : (w : Worlds) (i : Inv w) (l : Letter) (out : Outcome) (k : Kept i.K (record i.g { taken = i.g.taken ++ l ∷ [] }) l.to out) → l.to < length w.state.nodes →
    k.after.journal ≡ grown_all w.journal (slice_set w.state.nodes l.to out.node)
step_journal w i l out k less =
    sym (one_grows w.journal k.after.journal w.state.nodes l.to out.node less (λ n d. prefixes w i n) (rw (← i.journal) k.grows.journal) k.node.body.image.prefix (k.journal ∙ ap (λ j. grown j out.node out.node.part) i.journal))

pub step_top : (w : Worlds) (i : Inv w) (l : Letter) (out : Outcome) (k : Kept i.K (record i.g { taken = i.g.taken ++ l ∷ [] }) l.to out) → l.to < length w.state.nodes →
    k.after.top ≡ World.risen_all w.top (slice_set w.state.nodes l.to out.node)
step_top w i l out k less =
    sym (one_rises w.top k.after.top w.state.nodes l.to out.node less (λ n d. lows w i n) (omega (arith, k.grows.top, i.top))
    (risen_is w.top k.after.top out.node.part (omega (arith, k.grows.top, i.top)) (subst (λ x. k.after.top ≤ risen x out.node.part) i.top k.top) (part_low i.K k.after l.to out.node out.node.part k.node.part)))

pub step_node_ok : (w : Worlds) (i : Inv w) (flight : List Letter) (l : Letter) → AllOk i.K i.g flight → LetterOk i.K i.g l → slice_index_or w.state.runs l.to false ≡ true → l.to < length w.state.nodes →
    Went i (World.recorded w (World.step_node w.state flight l (Rules.take_message l.to (node_at w.state.nodes l.to) l.from l.body)))
step_node_ok w i flight l f a runs less =
    let g : Ghost = record i.g { taken = i.g.taken ++ l ∷ [] } in
    let st = node_at w.state.nodes l.to in
    let out = Rules.take_message l.to st l.from l.body in
    let k : Kept i.K g l.to out = step_kept w i l a runs in
    let nodes : (n : ℕ) → NodeOk i.K k.after n (node_at (slice_set w.state.nodes l.to out.node) n) = λ n. elim (cases_eq n l.to) [
      | inl x ↦ rw (x, get_or-set_same) k.node
      | inr x ↦ rw get_or-set_other (node_other i.K l.to g k.after k.grows k.only n (node_at w.state.nodes n) x (take_node i.K i.g l n (node_at w.state.nodes n) (i.nodes n)))
    ] in
    let journal : k.after.journal ≡ grown_all w.journal (slice_set w.state.nodes l.to out.node) = step_journal w i l out k less in
    record {
      grows = grows_trans (take_ghost i.g l) k.grows;
      texts = λ e. elim (k.texts e) [ inl x ↦ inl x | inr x ↦ inr (l.to, x ∙ ap (λ (s : Node). s.spool) (sym (get_or-set_same w.state.nodes l.to out.node fresh less))) ];
      after = record {
        K = i.K;
        g = k.after;
        global = k.global;
        nodes = nodes;
        flight = each_append (LetterOk i.K k.after) flight out.sends (letters_up i.K g k.after k.grows flight (letters_up i.K i.g g (take_ghost i.g l) flight f)) k.sends;
        said = each_append (LetterOk i.K k.after) w.said out.sends (letters_up i.K g k.after k.grows w.said (letters_up i.K i.g g (take_ghost i.g l) w.said i.said)) k.sends;
        taken = k.taken ∙ ap (λ x. x ++ l ∷ []) i.taken;
        journal = journal;
        routes = i.routes;
        latest = i.latest;
        sync = i.sync;
        sync_is = i.sync_is;
        stored = subst (λ j. IsPrefix w.state.stored j) journal (pre_trans i.stored (subst (λ j. IsPrefix j k.after.journal) i.journal k.grows.journal));
        floors = i.floors;
        gone = λ m. k.gone m ∙ i.gone m;
        top = step_top w i l out k less;
        syncs = syncs_more w i;
        synced_of = synced_more w i;
        found = i.found;
      };
    }
