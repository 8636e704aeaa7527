-- Whole messages: what is read is spelled so, what is spelled so is read, and no spelling is a prefix of another one.
use Rattle.std.proofs.Common.{◌≡◌, ℕ, suc, ◌+◌, ◌≤◌, Bool, true, false, cond, ltb, List, [], ◌∷◌, ◌++◌, length, take, drop, Option, Some, None, Result, Ok, Err, refl, sym, ap, subst, ◌∙◌, append_assoc, arith}
use Rattle.std.specs.Prelude.{IfOk}
use Rattle.std.specs.List.{AllByRecursion}
use Rattle.std.specs.Int.{w32, to_le_bytes, from_le_bytes}
use Rattle.std.proofs.lemmas.Bool.{ltb-false, le-ltb}
use Rattle.std.proofs.lemmas.List.{take_at, drop_at, take-append-drop, length-append, length-take, drop-drop, append-nil, nil_from_length}
use Rattle.std.proofs.lemmas.Nat.{le_bytes_4, from_le_bytes-to_le_bytes_4}
use Rattle.gz_wire.specs.declared.msg.Msg.{Msg}
use Rattle.gz_wire.specs.declared.kind.Kind.{Kind}
use Rattle.gz_spelling.specs.declared.wire.Decoded.{Decoded}
use Rattle.gz_spelling.specs.declared.table.Row.{Row}
use Rattle.gz_codec.specs.declared.error.FieldError.{FieldError}
use Rattle.gz_codec.specs.declared.error.FieldError.TheVariants as field_errors
use Rattle.gz_spelling.specs.declared.error.WireError.{WireError}
use Rattle.gz_spelling.specs.declared.error.WireError.TheVariants.{TooLong, NeedMore, BadField, BadTag, NoMemory}
use Rattle.gz_wire.specs.Kinds.{kind_of}
use Rattle.gz_spelling.specs.Messages.{tag_of, kinds_of, fields_of, msg_of, payload, message_at}
use Rattle.gz_codec.specs.Spelling.{text, FitsText, FitEach}
use Rattle.gz_codec.specs.Reading.{◌>>=◌, text_at, fields_at, Fails as FieldFails}
use Rattle.gz_spelling.specs.Table.{kind_tagged, distinct, HasKind}
use Rattle.gz_spelling.specs.Wire.{max_body, body_of, framed, spelling, body_in, named, peer_in, of_kind, msg_in, decoded, FitsMessage, decoded_of, Begins, Gives, Fails, in_message}
use Rattle.gz_codec.proofs.Codec.{IsBytes, IsBytes-take, IsBytes-drop, bind_ok}
use Rattle.gz_codec.proofs.Values.{text_codec, fields_take, fields_again}
use Rattle.gz_spelling.proofs.Rows.{HasItsTag, tagged, made, remade, found_in}

-- ---- what is spelled so is read

body_at : (head body more : List ℕ) → length head ≡ 4 → from_le_bytes w32 head ≡ length body → length body ≤ max_body → body_in (head ++ (body ++ more)) ≡ Ok body
unfolding body_in
body_at head body more len is short =
    let long : ltb (length (head ++ (body ++ more))) 4 ≡ false = le-ltb _ _ (omega (arith, length-append head (body ++ more))) in
    let small : ltb max_body (length body) ≡ false = le-ltb _ _ short in
    let enough : ltb (length (body ++ more)) (length body) ≡ false = le-ltb _ _ (omega (arith, length-append body more)) in
    rw (long, take_at head (body ++ more) 4 len, drop_at head (body ++ more) 4 len, is, small, enough, take_at body more (length body) refl) refl

body_again : (body more : List ℕ) → length body ≤ max_body → body_in (framed body ++ more) ≡ Ok body
unfolding framed
body_again body more short =
    ap body_in (append_assoc (to_le_bytes w32 (length body)) body more) ∙ body_at (to_le_bytes w32 (length body)) body more refl (from_le_bytes-to_le_bytes_4 (length body) (omega arith)) short

peer_again : (peer rest : List ℕ) → FitsText peer → peer_in (text peer ++ rest) ≡ Ok (peer, rest)
unfolding peer_in
peer_again peer rest fits = ap (named 0) (text_codec.again 0 peer rest fits)

abbrev done : Msg → Result Msg ℕ
done m = Ok m

message_again : (m : Msg) → FitEach (kinds_of (kind_of m)) (fields_of m) → message_at (kind_of m) (payload m) ≡ Ok m
unfolding message_at payload
message_again m fit = rw (fields_again (kinds_of (kind_of m)) 1 (fields_of m) fit) (ap done (made m))

tag_again : (rows : List Row) (k : Kind) (tag : ℕ) (rest : List ℕ) (m : Msg) → kind_tagged tag rows ≡ Some k → message_at k rest ≡ Ok m → msg_in rows (tag ∷ rest) ≡ Ok m
unfolding msg_in
tag_again rows k tag rest m is read = ap (λ (o : Option Kind). of_kind o tag rest) is ∙ ap (named tag) read

pub all_again : (rows : List Row) (bytes body peer rest : List ℕ) (m : Msg) → body_in bytes ≡ Ok body → peer_in body ≡ Ok (peer, rest) → msg_in rows rest ≡ Ok m → decoded rows bytes ≡ Ok (record { peer = peer; msg = m; used = 4 + length body })
unfolding decoded
all_again rows bytes body peer rest m one two three = rw (one, two, three) refl

pub read_again : (rows : List Row) (peer : List ℕ) (m : Msg) (more : List ℕ) → distinct rows ≡ true → AllByRecursion HasItsTag rows → HasKind (kind_of m) rows → FitsMessage peer m → decoded rows (spelling peer m ++ more) ≡ Ok (decoded_of peer m)
unfolding body_of
read_again rows peer m more apart have there fits =
    let row : kind_tagged (tag_of (kind_of m)) rows ≡ Some (kind_of m) = tagged (kind_of m) rows apart have there in
    let read : msg_in rows (tag_of (kind_of m) ∷ payload m) ≡ Ok m = tag_again rows (kind_of m) (tag_of (kind_of m)) (payload m) m row (message_again m fits.1) in
    all_again rows (spelling peer m ++ more) (body_of peer m) peer (tag_of (kind_of m) ∷ payload m) m (body_again (body_of peer m) more fits.2) (peer_again peer (tag_of (kind_of m) ∷ payload m) fits.0) read

-- ---- what is read is spelled so

refused : {A : Type 0} (b : Bool) (d : WireError) (r : Result A WireError) (y : A) → cond b (Err d) r ≡ Ok y → (b ≡ false) × (r ≡ Ok y)
refused true d r y e = absurd cc
refused false d r y e = (refl, e)

abbrev ok : {A : Type 0} → A → Result A WireError
ok x = Ok x

ok_is : {A : Type 0} (x y : A) → ok x ≡ ok y → x ≡ y
ok_is x y e = cc

named_ok : {A : Type 0} (tag : ℕ) (r : Result A ℕ) (x : A) → named tag r ≡ Ok x → r ≡ Ok x
named_ok tag (Ok a) x e = let same : a ≡ x = ok_is a x e in ap (λ y. Ok y) same
named_ok tag (Err f) x e = absurd cc

-- the length in prefix, the body, and what follows it
split_of : (bytes : List ℕ) (n : ℕ) (body : List ℕ) → IsBytes bytes → 4 ≤ length bytes → n ≡ from_le_bytes w32 (take 4 bytes) → take n (drop 4 bytes) ≡ body → length (take n (drop 4 bytes)) ≡ n → n ≤ max_body
    → (bytes ≡ framed body ++ drop (4 + length body) bytes) × (length body ≤ max_body) × IsBytes body
unfolding framed
split_of bytes n body fits four is took len small =
    let size : length body ≡ n = sym (ap length took) ∙ len in
    let four_long : length (take 4 bytes) ≡ 4 = omega (arith, length-take 4 bytes) in
    let head : to_le_bytes w32 (length body) ≡ take 4 bytes = ap (to_le_bytes w32) size ∙ le_bytes_4 (take 4 bytes) n four_long (IsBytes-take 4 bytes fits) is in
    let rest : drop (4 + length body) bytes ≡ drop n (drop 4 bytes) = ap (λ (k : ℕ). drop (4 + k) bytes) size ∙ sym (drop-drop n 4 bytes) in
    let joined : (take 4 bytes ++ take n (drop 4 bytes)) ++ drop n (drop 4 bytes) ≡ bytes = append_assoc (take 4 bytes) (take n (drop 4 bytes)) (drop n (drop 4 bytes)) ∙ ap (λ (y : List ℕ). take 4 bytes ++ y) (take-append-drop n (drop 4 bytes)) ∙ take-append-drop 4 bytes in
    let whole : (to_le_bytes w32 (length body) ++ body) ++ drop (4 + length body) bytes ≡ bytes =
    ap (λ (y : List ℕ). (y ++ body) ++ drop (4 + length body) bytes) head ∙ ap (λ (y : List ℕ). (take 4 bytes ++ y) ++ drop (4 + length body) bytes) (sym took) ∙ ap (λ (y : List ℕ). (take 4 bytes ++ take n (drop 4 bytes)) ++ y) rest ∙ joined in
    (sym whole, omega arith, subst (λ (y : List ℕ). IsBytes y) took (IsBytes-take n (drop 4 bytes) (IsBytes-drop 4 bytes fits)))

body_took : (bytes body : List ℕ) → IsBytes bytes → body_in bytes ≡ Ok body → (bytes ≡ framed body ++ drop (4 + length body) bytes) × (length body ≤ max_body) × IsBytes body
unfolding body_in framed
body_took bytes body fits e =
    let a = refused (ltb (length bytes) 4) _ _ body e in
    let b = refused (ltb max_body (from_le_bytes w32 (take 4 bytes))) _ _ body a.1 in
    let c = refused (ltb (length (drop 4 bytes)) (from_le_bytes w32 (take 4 bytes))) _ _ body b.1 in
    let is : take (from_le_bytes w32 (take 4 bytes)) (drop 4 bytes) ≡ body = ok_is _ body c.1 in
    let four : 4 ≤ length bytes = ltb-false _ _ a.0 in
    let small : from_le_bytes w32 (take 4 bytes) ≤ max_body = ltb-false _ _ b.0 in
    let enough : from_le_bytes w32 (take 4 bytes) ≤ length (drop 4 bytes) = ltb-false _ _ c.0 in
    let len : length (take (from_le_bytes w32 (take 4 bytes)) (drop 4 bytes)) ≡ from_le_bytes w32 (take 4 bytes) = omega (arith, length-take (from_le_bytes w32 (take 4 bytes)) (drop 4 bytes)) in
    split_of bytes (from_le_bytes w32 (take 4 bytes)) body fits four refl is len small

record Spelled (rest : List ℕ) (m : Msg) : Type 0 where
  pub is : rest ≡ tag_of (kind_of m) ∷ payload m
  pub fit : FitEach (kinds_of (kind_of m)) (fields_of m)

done_is : (x y : Msg) → done x ≡ done y → x ≡ y
done_is x y e = cc

msg_made : (tag : ℕ) (k : Kind) (rest : List ℕ) (m : Msg) → IsBytes rest → tag ≡ tag_of k → message_at k rest ≡ Ok m → Spelled (tag ∷ rest) m
unfolding message_at
msg_made tag k rest m fits is read =
    let a = bind_ok (fields_at (kinds_of k) 1 rest) (λ vs. done (msg_of k vs)) m read in
    let took = fields_take (kinds_of k) 1 rest a.0 fits a.1 in
    let same = remade k a.0 took.1 in
    let spelled : Spelled (tag ∷ rest) (msg_of k a.0) = record {
      is = ap (λ (t : ℕ). t ∷ rest) (is ∙ sym same.tag) ∙ ap (λ (r : List ℕ). tag_of (kind_of (msg_of k a.0)) ∷ r) (took.0 ∙ sym same.spelled);
      fit = same.fits;
    } in
    subst (λ (n : Msg). Spelled (tag ∷ rest) n) (done_is (msg_of k a.0) m a.2) spelled

of_option : (rows : List Row) → AllByRecursion HasItsTag rows → (o : Option Kind) (tag : ℕ) (rest : List ℕ) (m : Msg) → IsBytes rest → kind_tagged tag rows ≡ o → of_kind o tag rest ≡ Ok m → Spelled (tag ∷ rest) m
of_option rows have None tag rest m fits is read = absurd cc
of_option rows have (Some k) tag rest m fits is read = msg_made tag k rest m fits (found_in tag k rows have is) (named_ok tag (message_at k rest) m read)

msg_took : (rows : List Row) → AllByRecursion HasItsTag rows → (bytes : List ℕ) (m : Msg) → IsBytes bytes → msg_in rows bytes ≡ Ok m → Spelled bytes m
unfolding msg_in
msg_took rows have [] m fits read = absurd cc
msg_took rows have (tag ∷ rest) m fits read = of_option rows have (kind_tagged tag rows) tag rest m (λ i. fits (suc i)) refl read

peer_read : (body : List ℕ) (x : List ℕ × List ℕ) → peer_in body ≡ Ok x → text_at 0 body ≡ Ok x
unfolding peer_in
peer_read body x e = named_ok 0 (text_at 0 body) x e

abbrev decoded_as : List ℕ → Msg → ℕ → Decoded
decoded_as peer m used = record { peer = peer; msg = m; used = used }

begins_so : (bytes body peer : List ℕ) (m : Msg) → body ≡ text peer ++ (tag_of (kind_of m) ∷ payload m) → bytes ≡ framed body ++ drop (4 + length body) bytes → length body ≤ max_body → FitsText peer → FitEach (kinds_of (kind_of m)) (fields_of m)
    → Begins bytes (decoded_as peer m (4 + length body))
unfolding body_of
begins_so bytes body peer m is split short peer_fits fit = record {
  spelled = split ∙ ap (λ (y : List ℕ). framed y ++ drop (4 + length body) bytes) is;
  used = ap (λ (y : List ℕ). 4 + length y) is;
  fits = (peer_fits, fit, subst (λ (y : List ℕ). length y ≤ max_body) is short);
}

pub begins : (rows : List Row) → AllByRecursion HasItsTag rows → (bytes : List ℕ) (d : Decoded) → IsBytes bytes → decoded rows bytes ≡ Ok d → Begins bytes d
unfolding decoded body_of
begins rows have bytes d fits e =
    let a = bind_ok (body_in bytes) (λ body. peer_in body >>= λ peer. msg_in rows peer.1 >>= λ msg. ok (decoded_as peer.0 msg (4 + length body))) d e in
    let b = bind_ok (peer_in a.0) (λ peer. msg_in rows peer.1 >>= λ msg. ok (decoded_as peer.0 msg (4 + length a.0))) d a.2 in
    let c = bind_ok (msg_in rows b.0.1) (λ msg. ok (decoded_as b.0.0 msg (4 + length a.0))) d b.2 in
    let first = body_took bytes a.0 fits a.1 in
    let second = text_codec.takes 0 a.0 b.0 first.2 (peer_read a.0 b.0 b.1) in
    let third = msg_took rows have b.0.1 c.0 second.0.rest_fits c.1 in
    let body : a.0 ≡ text b.0.0 ++ (tag_of (kind_of c.0) ∷ payload c.0) = second.0.parts ∙ ap (λ (y : List ℕ). text b.0.0 ++ y) third.is in
    let all : Begins bytes (decoded_as b.0.0 c.0 (4 + length a.0)) = begins_so bytes a.0 b.0.0 c.0 body first.0 first.1 second.1 third.fit in
    subst (λ (y : Decoded). Begins bytes y) (ok_is (decoded_as b.0.0 c.0 (4 + length a.0)) d c.2) all

-- ---- no spelling is a prefix of another one

pub no_prefix : (rows : List Row) → distinct rows ≡ true → AllByRecursion HasItsTag rows → (p q : List ℕ) (m n : Msg) (more : List ℕ) → HasKind (kind_of m) rows → HasKind (kind_of n) rows → FitsMessage p m → FitsMessage q n → spelling p m ++ more ≡ spelling q n
    → (p ≡ q) × (m ≡ n) × (more ≡ [])
no_prefix rows apart have p q m n more here there one other same =
    let read : decoded rows (spelling p m ++ more) ≡ ok (decoded_of q n) = ap (decoded rows) (same ∙ sym (append-nil (spelling q n))) ∙ read_again rows q n [] apart have there other in
    let decoded_same : decoded_of p m ≡ decoded_of q n = ok_is (decoded_of p m) (decoded_of q n) (sym (read_again rows p m more apart have here one) ∙ read) in
    let peers : p ≡ q = ap (λ (d : Decoded). d.peer) decoded_same in
    let msgs : m ≡ n = ap (λ (d : Decoded). d.msg) decoded_same in
    let spelled : spelling p m ≡ spelling q n = ap (λ (x : List ℕ). spelling x m) peers ∙ ap (λ (x : Msg). spelling q x) msgs in
    let len : length (spelling p m) + length more ≡ length (spelling p m) = sym (length-append (spelling p m) more) ∙ ap length (same ∙ sym spelled) in
    (peers, msgs, nil_from_length more (omega arith))

-- ---- the same of what a function returned

pub found_begins : (rows : List Row) → AllByRecursion HasItsTag rows → (bytes : List ℕ) (r : Result Decoded WireError) → IsBytes bytes → Gives (λ d. d) r (decoded rows bytes) → IfOk r (λ d. Begins bytes d)
found_begins rows have bytes (Ok d) fits given = begins rows have bytes d fits given
found_begins rows have bytes (Err e) fits given = tt

pub found_all : (rows : List Row) → distinct rows ≡ true → AllByRecursion HasItsTag rows → (bytes : List ℕ) (r : Result Decoded WireError) → Gives (λ d. d) r (decoded rows bytes) → (peer : List ℕ) (m : Msg) (more : List ℕ) → HasKind (kind_of m) rows → FitsMessage peer m → bytes ≡ spelling peer m ++ more
    → Gives (λ d. d) r (Ok (decoded_of peer m))
found_all rows apart have bytes r given peer m more there fits e = subst (λ f. Gives (λ d. d) r f) (ap (decoded rows) e ∙ read_again rows peer m more apart have there fits) given

-- ---- a part that can't be read

pub named_fails : {A : Type 0} (e : FieldError) (tag : ℕ) (read : Result A ℕ) → FieldFails e read → Fails (in_message tag e) (named tag read)
named_fails field_errors.NoMemory tag read fails = tt
named_fails (field_errors.Bad field) tag read fails = rw fails refl

pub body_fails : (e : WireError) (rows : List Row) (bytes : List ℕ) → Fails e (body_in bytes) → Fails e (decoded rows bytes)
unfolding decoded
body_fails NoMemory rows bytes fails = tt
body_fails TooLong rows bytes fails = rw fails refl
body_fails NeedMore rows bytes fails = rw fails refl
body_fails (BadField tag field) rows bytes fails = rw fails refl
body_fails (BadTag tag) rows bytes fails = rw fails refl

pub peer_fails : (e : WireError) (rows : List Row) (bytes body : List ℕ) → body_in bytes ≡ Ok body → Fails e (peer_in body) → Fails e (decoded rows bytes)
unfolding decoded
peer_fails NoMemory rows bytes body is fails = tt
peer_fails TooLong rows bytes body is fails = rw (is, fails) refl
peer_fails NeedMore rows bytes body is fails = rw (is, fails) refl
peer_fails (BadField tag field) rows bytes body is fails = rw (is, fails) refl
peer_fails (BadTag tag) rows bytes body is fails = rw (is, fails) refl

pub msg_fails : (e : WireError) (rows : List Row) (bytes body peer rest : List ℕ) → body_in bytes ≡ Ok body → peer_in body ≡ Ok (peer, rest) → Fails e (msg_in rows rest) → Fails e (decoded rows bytes)
unfolding decoded
msg_fails NoMemory rows bytes body peer rest is peer_is fails = tt
msg_fails TooLong rows bytes body peer rest is peer_is fails = rw (is, peer_is, fails) refl
msg_fails NeedMore rows bytes body peer rest is peer_is fails = rw (is, peer_is, fails) refl
msg_fails (BadField tag field) rows bytes body peer rest is peer_is fails = rw (is, peer_is, fails) refl
msg_fails (BadTag tag) rows bytes body peer rest is peer_is fails = rw (is, peer_is, fails) refl
