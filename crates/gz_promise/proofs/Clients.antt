-- Of a client, what stands in the read order is a prefix of what it wrote, each message once.
use Rattle.std.proofs.Common.{◌≡◌, ℕ, zero, suc, ◌+◌, ◌<◌, ◌≤◌, List, [], ◌∷◌, ◌++◌, filter, flat_map, map, max, refl, ap, sym, ◌∙◌, subst, append_assoc, Option, Some, None, Bool, true, false, nat_lt, arith}
use Rattle.std.specs.Prelude.{⊤}
use Rattle.std.specs.Str.{bytes_eq}
use Rattle.std.proofs.lemmas.Grind.{common_steps}
use Rattle.std.proofs.lemmas.List.{append-nil}
use Rattle.std.proofs.lemmas.Slice.Eq.{bytes_eq-Decides}
use Rattle.std.proofs.lemmas.List.Elements.{filter-append}
use Rattle.gz_model.specs.Prefix.{IsPrefix}
use Rattle.gz_frame.specs.Messages.{Message, is_end, is_ack, is_outside, outside_txn}
use Rattle.gz_frame.specs.Release.{greater_of, greatest, greatest_from, is_above, of_producer, released}
use Rattle.gz_frame.specs.Text.{messages_of}
use Rattle.gz_sequencer.specs.Committed.{committed, messages_alone, released_in}
use Rattle.gz_sequencer.specs.Transactions.{Line, Transaction, AreTransactions, NoneNewer, lines_in, messages_in_lines, text_of, text_of_lines}
use Rattle.gz_sequencer.proofs.Produced.{AllOf, all_of_producer, messages_behind, of_all, of_released, released_behind}
use Rattle.gz_sequencer.proofs.Transactions.{transactions_released}
use Rattle.gz_promise.specs.Accounts.{Account, Commit, Stream}
use Rattle.gz_promise.specs.Clients.{AllOutside, AreSingles, IsSource, read_from}
use Rattle.gz_promise.specs.Promise.{ExactlyOnce, ReadPrefixes, Taken, joined, of_source, read_order}

-- ---- one source

prefix_at : (j k : ℕ) (ss : List Stream) (commits : List Commit) (read : List Taken) (s : Stream) → ReadPrefixes j ss commits read → IsSource k ss s
    → IsPrefix (of_source (j + k) read) (released_in s.committed)
prefix_at j k [] commits read s are is = absurd is
prefix_at j zero (t ∷ ss) commits read s are is =
    let here : j ≡ j + 0 = omega arith in
    subst (λ (n : ℕ). IsPrefix (of_source n read) (released_in s.committed)) here
    (subst (λ (u : Stream). IsPrefix (of_source j read) (released_in u.committed)) is are.0.1)
prefix_at j (suc k) (t ∷ ss) commits read s are is =
    let next : suc j + k ≡ j + suc k = omega arith in
    subst (λ (n : ℕ). IsPrefix (of_source n read) (released_in s.committed)) next (prefix_at (suc j) k ss commits read s are.1 is)

-- what was read of a source is a prefix of what it has committed
source_prefix : (a : Account) (once : ExactlyOnce a) (k : ℕ) (s : Stream) → IsSource k a.sources s → IsPrefix (of_source k (read_order a once)) (released_in s.committed)
source_prefix a once k s is =
    let here : 0 + k ≡ k = omega arith in
    subst (λ (n : ℕ). IsPrefix (of_source n (read_order a once)) (released_in s.committed)) here
    (prefix_at 0 k a.sources a.commits (joined once.order) s once.prefixes is)

-- and so of each producer
producer_prefix : (p : List ℕ) (xs ys : List Message) → IsPrefix xs ys → IsPrefix (of_producer p xs) (of_producer p ys)
producer_prefix p xs ys prefix =
    (of_producer p prefix.0, sym (filter-append (λ m. bytes_eq m.producer p) xs prefix.0) ∙ ap (λ (ms : List Message). of_producer p ms) prefix.1)

client_prefix : (a : Account) (once : ExactlyOnce a) (k : ℕ) (s : Stream) (p : List ℕ) (ms : List Message) → IsSource k a.sources s → of_producer p (released_in s.committed) ≡ ms
    → IsPrefix (read_from k p (read_order a once)) ms
client_prefix a once k s p ms is released =
    subst (λ (xs : List Message). IsPrefix (read_from k p (read_order a once)) xs) released
    (producer_prefix p (of_source k (read_order a once)) (released_in s.committed) (source_prefix a once k s is))

-- a client that writes transactions
pub transactions_read : (a : Account) (once : ExactlyOnce a) (k : ℕ) (offset : ℕ) (text p : List ℕ) (ts : List Transaction) (waiting : List Line)
    → IsSource k a.sources (record { from = offset; committed = committed offset text }) → AreTransactions None ts waiting
    → of_producer p (messages_alone (messages_of offset text)) ≡ text_of ts ++ text_of_lines waiting
    → IsPrefix (read_from k p (read_order a once)) (lines_in ts)
transactions_read a once k offset text p ts waiting is are wrote =
    client_prefix a once k (record { from = offset; committed = committed offset text }) p (lines_in ts) is (transactions_released offset text p ts waiting are wrote)

-- ---- messages that stand by themselves

above_if : (n m : ℕ) → m ≤ n → nat_lt n m ≡ false
above_if n m upto = grind (arith, common_steps)

greatest_more : (h : List Message) (m : Message) (top : Option ℕ) → m.flags ≡ outside_txn → greatest_from top (h ++ m ∷ []) ≡ greater_of (greatest_from top h) m.clock
greatest_more [] m top out = rw out refl
greatest_more (x ∷ h) m top out = greatest_more h m (greatest_from top (x ∷ [])) out

higher : (top : Option ℕ) (clock : ℕ) → is_above top clock ≡ true → greater_of top clock ≡ Some clock
higher None clock above = refl
higher (Some top) clock above =
    let less : max top clock ≡ clock = grind (arith, common_steps) in
    ap (λ (n : ℕ). Some n) less

no_higher : (top clock : ℕ) → clock ≤ top → greater_of (Some top) clock ≡ Some top
no_higher top clock upto =
    let same : max top clock ≡ top = omega (arith, upto) in
    ap (λ (n : ℕ). Some n) same

abbrev if_one : Bool → Message → List Message
if_one true m = m ∷ []
if_one false m = []

releases_if : (h : List Message) (m : Message) (b : Bool) → m.flags ≡ outside_txn → is_above (greatest h) m.clock ≡ b → released h m ≡ if_one b m
releases_if h m true out above = rw (out, above) refl
releases_if h m false out above = rw (out, above) refl

own : (p : List ℕ) (h : List Message) (m : Message) → bytes_eq m.producer p ≡ true → AllOf p h → of_producer m.producer h ≡ h
own p h m is all = ap (λ (q : List ℕ). of_producer q h) ((bytes_eq-Decides m.producer p).0 is) ∙ of_all p h all

prefix_of : (p : List ℕ) (xs ys : List Message) → AllOf p (xs ++ ys) → AllOf p xs
prefix_of p [] ys all = tt
prefix_of p (x ∷ xs) ys all = (all.0, prefix_of p xs ys all.1)

back_of : (p : List ℕ) (xs ys : List Message) → AllOf p (xs ++ ys) → AllOf p ys
back_of p [] ys all = all
back_of p (x ∷ xs) ys all = back_of p xs ys all.1

both_of : (p : List ℕ) (xs ys : List Message) → AllOf p xs → AllOf p ys → AllOf p (xs ++ ys)
both_of p [] ys a c = c
both_of p (x ∷ xs) ys a c = (a.0, both_of p xs ys a.1 c)

-- what stands again releases nothing
again_nothing : (p : List ℕ) (xs more : List Message) (h : List Message) (clock : ℕ) (out : List Message) → AllOf p h → AllOf p xs → AllOutside xs → NoneNewer clock xs → greatest h ≡ Some clock
    → ((g : List Message) → AllOf p g → greatest g ≡ Some clock → released_behind g more ≡ out) → released_behind h (xs ++ more) ≡ out
again_nothing p [] more h clock out all are outside none top rest = rest h all top
again_nothing p (x ∷ xs) more h clock out all are outside none top rest =
    let below : is_above (greatest h) x.clock ≡ false = ap (λ (t : Option ℕ). is_above t x.clock) top ∙ above_if clock x.clock none.0 in
    let nothing : released (of_producer x.producer h) x ≡ [] = ap (λ (g : List Message). released g x) (own p h x are.0 all) ∙ releases_if h x false outside.0 below in
    let still : greatest (h ++ x ∷ []) ≡ Some clock = greatest_more h x None outside.0 ∙ ap (λ (t : Option ℕ). greater_of t x.clock) top ∙ no_higher clock x.clock none.0 in
    ap (λ (ms : List Message). ms ++ released_behind (h ++ x ∷ []) (xs ++ more)) nothing
    ∙ again_nothing p xs more (h ++ x ∷ []) clock out (both_of p h (x ∷ []) all (are.0, tt)) are.1 outside.1 none.1 still rest

singles_released : (p : List ℕ) (ls : List Line) (h : List Message) (top : Option ℕ) → AllOf p h → AllOf p (text_of_lines ls) → greatest h ≡ top → AreSingles top ls
    → released_behind h (text_of_lines ls) ≡ messages_in_lines ls
singles_released p [] h top all are is singles = refl
singles_released p (l ∷ ls) h top all are is singles =
    let m : Message = l.message in
    let rest : List Message = text_of_lines ls in
    let first : released (of_producer m.producer h) m ≡ m ∷ [] =
    ap (λ (g : List Message). released g m) (own p h m are.0 all) ∙ releases_if h m true singles.0 (ap (λ (t : Option ℕ). is_above t m.clock) is ∙ singles.1) in
    let next : greatest (h ++ m ∷ []) ≡ Some m.clock = greatest_more h m None singles.0 ∙ ap (λ (t : Option ℕ). greater_of t m.clock) is ∙ higher top m.clock singles.1 in
    ap (λ (ms : List Message). ms ++ released_behind (h ++ m ∷ []) (l.again ++ rest)) first
    ∙ ap (λ (ms : List Message). m ∷ ms)
    (again_nothing p l.again rest (h ++ m ∷ []) m.clock (messages_in_lines ls) (both_of p h (m ∷ []) all (are.0, tt)) (prefix_of p l.again rest are.1) singles.2 singles.3 next
    (λ g gall gtop. singles_released p ls g (Some m.clock) gall (back_of p l.again rest are.1) gtop singles.4))

-- a client that writes messages that stand by themselves
pub singles_read : (a : Account) (once : ExactlyOnce a) (k : ℕ) (offset : ℕ) (text p : List ℕ) (ls : List Line)
    → IsSource k a.sources (record { from = offset; committed = committed offset text }) → AreSingles None ls
    → of_producer p (messages_alone (messages_of offset text)) ≡ text_of_lines ls
    → IsPrefix (read_from k p (read_order a once)) (messages_in_lines ls)
singles_read a once k offset text p ls is singles wrote =
    let ms : List Message = messages_alone (messages_of offset text) in
    let all : AllOf p (text_of_lines ls) = subst (λ (xs : List Message). AllOf p xs) wrote (all_of_producer p ms) in
    let released : of_producer p (released_in (committed offset text)) ≡ messages_in_lines ls =
    ap (λ (xs : List Message). of_producer p xs) (messages_behind [] (messages_of offset text))
    ∙ of_released p [] ms
    ∙ ap (λ (xs : List Message). released_behind [] xs) wrote
    ∙ singles_released p ls [] None tt all refl singles in
    client_prefix a once k (record { from = offset; committed = committed offset text }) p (messages_in_lines ls) is released
