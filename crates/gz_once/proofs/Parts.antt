-- What a resumed sequencer releases is the part between the offsets.
use Rattle.std.proofs.Common.{◌≡◌, List, ◌++◌, length, drop, ap, sym, ◌∙◌, append_assoc}
use Rattle.gz_sequencer.specs.Machine.{started, fed, at, point_of, resumed}
use Rattle.std.specs.Prelude.{◌-◌}
use Rattle.gz_reader.specs.Reader.{Message, committed}
use Rattle.gz_reader.specs.Coding.{all_coded}
use Rattle.gz_reader.proofs.Updates.{drop_append}
use Rattle.gz_reader.proofs.Texts.{resumed_accepts}
use Rattle.gz_once.specs.Applications.{upto}
use Rattle.gz_once.specs.Consumed.{IsSequenced, PartsJoin}
use Rattle.gz_once.proofs.Claims.{upto_upto, commits_more}

pub sequenced : IsSequenced
sequenced c apart g k from to offset t text more low high =
    let resuming = resumed (point_of (fed (started offset) text)) in
    let new : List Message = all_coded c (fed resuming (drop (at resuming - offset) (text ++ more))).released in
    let whole : committed (upto g k from t) ++ new ≡ committed (upto g k to t) =
    ap (λ v. committed v ++ new) low ∙ resumed_accepts c apart offset text more ∙ ap committed (sym high) in
    ap (λ v. drop (length (committed (upto g k from t))) v) (sym whole) ∙ drop_append (committed (upto g k from t)) new

pub joins : PartsJoin
joins g k t from mid to l m =
    let A = committed (upto g k from t) in
    let B = committed (upto g k mid t) in
    let C = committed (upto g k to t) in
    let p = commits_more (upto g k from t) (upto g k mid t) (upto_upto g k from mid t l) in
    let q = commits_more (upto g k mid t) (upto g k to t) (upto_upto g k mid to t m) in
    let one : drop (length A) B ≡ p.0 = ap (λ v. drop (length A) v) (sym p.1) ∙ drop_append A p.0 in
    let two : drop (length B) C ≡ q.0 = ap (λ v. drop (length B) v) (sym q.1) ∙ drop_append B q.0 in
    let both : drop (length A) C ≡ p.0 ++ q.0 = ap (λ v. drop (length A) v) (sym q.1) ∙ ap (λ v. drop (length A) (v ++ q.0)) (sym p.1) ∙ ap (λ v. drop (length A) v) (append_assoc A p.0 q.0) ∙ drop_append A (p.0 ++ q.0) in
    ap (λ v. v ++ drop (length B) C) one ∙ ap (λ v. p.0 ++ v) two ∙ sym both
