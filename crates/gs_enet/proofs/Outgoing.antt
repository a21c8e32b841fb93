-- What is to be written, and what is left of it.
use Rattle.std.proofs.Common.{◌≡◌, ◌≢◌, ◌⊎◌, ◌<◌, ◌≤◌, ◌+◌, ◌-◌, ◌*◌, ◌%◌, ℕ, zero, suc, Bool, true, false, cond, List, [], ◌∷◌, ◌++◌, length, map, take, drop}
use Rattle.std.proofs.Common.{Option, Some, None, refl, sym, ap, subst, ◌∙◌, arith, inl, inr}
use Rattle.std.specs.Prelude.{nat_le}
use Rattle.std.specs.List.{filter, flat_map, AllByRecursion}
use Rattle.std.proofs.lemmas.Bool.{cond-true, cond-false, le-leb, lt-leb}
use Rattle.std.proofs.lemmas.List.{append_assoc, append-nil, length-append, length-drop, drop-drop, drop-map, map-append, take-append-drop, length-take-le}
use Rattle.std.proofs.Math.Seq.{drop-append_seam}
use Rattle.std.proofs.lemmas.Grind.{flat_map-append}
use Rattle.gs_enet_wire.specs.declared.command.Command.{Command}
use Rattle.gs_enet_wire.specs.declared.datagram.Datagram.{Datagram}
use Rattle.gs_enet_wire.specs.Grammar.{command_spelling, all_fields, Fit, fields_bytes, header, spelling, SpellsDatagram, IsWritable, u16}
use Rattle.gs_enet_wire.specs.Writing.{PutsText, PutsFields}
use Rattle.gs_enet_wire.proofs.Writers.{puts_then, spelling_again}
use Rattle.gs_enet.specs.declared.answer.Answer.{Answer}
use Rattle.gs_enet.specs.declared.peer.Peer.{Peer}
use Rattle.gs_enet.specs.Record.{PeerRecord, Content, Connect, VerifyConnect, Disconnect, Message, Order, Unacknowledged, is_shut, at_moment}
use Rattle.gs_enet.specs.Write.{Item, Answers, Orders, item_command, order_command, is_due, due_if, going_out, fitting, next_items, having_written}
use Rattle.gs_enet.specs.Write.{first_written, wrote_next, items_datagram, datagram_if, next_datagram, address}
use Rattle.gs_enet.specs.Standing.{IsPeerOf}
use Rattle.gs_enet.specs.Items.{IsTooLong, WritesItem, WritesOne}
use Rattle.gs_enet.specs.Outcomes.{WritesNext, WritesDatagram}
use Rattle.gs_enet.proofs.Due.{first_written-more, due_after}
use Rattle.gs_enet.proofs.Windows.{first_written-none}

-- ---- one item less

pub having_written-zero : (r : PeerRecord) → having_written 0 r ≡ r
having_written-zero r =
    let none : 0 - length r.pending ≡ 0 = omega arith in
    ap (λ (us : List Unacknowledged). record r { pending = r.pending; unacknowledged = us })
    (ap (λ (k : ℕ). first_written r.now k r.unacknowledged) none ∙ first_written-none r.now r.unacknowledged)

drop_none : {X : Type 0} (n : ℕ) → drop {A = X} n [] ≡ []
drop_none zero = refl
drop_none (suc n) = refl

more_of_both : (now n : ℕ) (as' : List Answer) (us : List Unacknowledged)
    → first_written now (suc n - length as') us ≡ first_written now (1 - length (drop n as')) (first_written now (n - length as') us)
more_of_both now n [] us =
    ap (λ (k : ℕ). first_written now k us) (let e : suc n - 0 ≡ suc n = omega arith in e) ∙ first_written-more now n us
    ∙ ap (λ (k : ℕ). first_written now 1 (first_written now k us)) (let e : n ≡ n - 0 = omega arith in e)
    ∙ ap (λ (l : List Answer). first_written now (1 - length l) (first_written now (n - 0) us)) (sym (drop_none n))
more_of_both now zero (a ∷ as') us =
    let e : suc zero - suc (length as') ≡ 0 = omega arith in
    let f : zero - suc (length as') ≡ 0 = omega arith in
    ap (λ (k : ℕ). first_written now k us) e
    ∙ sym (first_written-none now (first_written now 0 us))
    ∙ ap (λ (k : ℕ). first_written now k (first_written now 0 us)) (sym e)
    ∙ ap (λ (k : ℕ). first_written now (suc zero - suc (length as')) (first_written now k us)) (sym f)
more_of_both now (suc n) (a ∷ as') us =
    let e : suc (suc n) - suc (length as') ≡ suc n - length as' = omega arith in
    let f : n - length as' ≡ suc n - suc (length as') = omega arith in
    ap (λ (k : ℕ). first_written now k us) e ∙ more_of_both now n as' us
    ∙ ap (λ (k : ℕ). first_written now (1 - length (drop n as')) (first_written now k us)) f

pub having_written-more : (n : ℕ) (r : PeerRecord) → having_written (suc n) r ≡ having_written 1 (having_written n r)
having_written-more n r =
    ap (λ (us : List Unacknowledged). record r { pending = drop (suc n) r.pending; unacknowledged = us })
    (more_of_both r.now n r.pending r.unacknowledged)
    ∙ ap (λ (as' : List Answer). record r {
      pending = as';
      unacknowledged = first_written r.now (1 - length (drop n r.pending)) (first_written r.now (n - length r.pending) r.unacknowledged);
    }) (ap (λ (k : ℕ). drop k r.pending) (let e : suc n ≡ n + 1 = omega arith in e) ∙ sym (drop-drop 1 n r.pending))

drop_both : {X : Type 0} (n : ℕ) (xs ys : List X) → drop n (xs ++ ys) ≡ drop n xs ++ drop (n - length xs) ys
drop_both zero xs ys = ap (λ (k : ℕ). xs ++ drop k ys) (let e : 0 ≡ 0 - length xs = omega arith in e)
drop_both (suc n) [] ys = ap (λ (k : ℕ). drop k ys) (let e : suc n ≡ suc n - 0 = omega arith in e)
drop_both (suc n) (x ∷ xs) ys =
    drop_both n xs ys ∙ ap (λ (k : ℕ). drop n xs ++ drop k ys) (let e : n - length xs ≡ suc n - suc (length xs) = omega arith in e)

due_less : (over : Bool) (now n : ℕ) (us : List Unacknowledged) → due_if over (first_written now n us) ≡ drop n (due_if over us)
due_less true now n us = sym (drop_none n)
due_less false now n us = due_after now n us

orders_of : List Unacknowledged → List Item
orders_of us = map (λ (u : Unacknowledged). Orders u.order) us

pub going_out-less : (n : ℕ) (r : PeerRecord) → going_out (having_written n r) ≡ drop n (going_out r)
going_out-less n r =
    let k : ℕ = n - length r.pending in
    let due : List Unacknowledged = due_if (is_shut r.state) r.unacknowledged in
    let same : n - length (map Answers r.pending) ≡ k = ap (λ (m : ℕ). n - m) (length_map r.pending) in
    ap (λ (us : List Unacknowledged). map Answers (drop n r.pending) ++ map (λ (u : Unacknowledged). Orders u.order) us)
    (due_less (is_shut r.state) r.now k r.unacknowledged)
    ∙ ap (λ (xs : List Item). map Answers (drop n r.pending) ++ xs) (sym (drop-map (λ (u : Unacknowledged). Orders u.order) k due))
    ∙ ap (λ (xs : List Item). xs ++ drop k (map (λ (u : Unacknowledged). Orders u.order) due)) (sym (drop-map Answers n r.pending))
    ∙ ap (λ (m : ℕ). drop n (map Answers r.pending) ++ drop m (map (λ (u : Unacknowledged). Orders u.order) due)) (sym same)
    ∙ sym (drop_both n (map Answers r.pending) (map (λ (u : Unacknowledged). Orders u.order) due))
  where
    length_map : (as' : List Answer) → length (map Answers as') ≡ length as'
    length_map [] = refl
    length_map (a ∷ as') = ap suc (length_map as')

order_same : (n : ℕ) (r : PeerRecord) (content : Content) (channel number : ℕ)
    → order_command content channel number (having_written n r) ≡ order_command content channel number r
order_same n r Connect channel number = refl
order_same n r VerifyConnect channel number = refl
order_same n r Disconnect channel number = refl
order_same n r (Message bytes) channel number = refl

pub item_same : (n : ℕ) (r : PeerRecord) (x : Item) → item_command (having_written n r) x ≡ item_command r x
item_same n r (Answers a) = refl
item_same n r (Orders o) = order_same n r o.content o.channel o.number

-- ---- what was written so far

abbrev pub commands_of : PeerRecord → List Item → List Command
commands_of r items = map (item_command r) items

pub record HasWritten (r : PeerRecord) (place : ℕ) (p : Peer) (before after : List ℕ) : Type 0 where
  pub items : List Item
  pub some : items ≢ []
  pub stands : IsPeerOf p (having_written (length items) r)
  pub fits : fitting r 1388 (going_out r) ≡ items ++ fitting r (1392 - place) (drop (length items) (going_out r))
  pub put : PutsText (flat_map command_spelling (commands_of r items)) 4 place before after
  pub fit : AllByRecursion (λ c. Fit (all_fields c)) (commands_of r items)
  pub room : place ≤ 1392

fits_one : (r : PeerRecord) (place end : ℕ) (xs : List Item) (x : Item) (rest : List Item) → xs ≡ x ∷ rest
    → end ≡ place + length (command_spelling (item_command r x)) → end ≤ 1392
    → fitting r (1392 - place) xs ≡ x ∷ fitting r (1392 - end) rest
fits_one r place end xs x rest e ends most =
    let size : ℕ = length (command_spelling (item_command r x)) in
    ap (fitting r (1392 - place)) e
    ∙ cond-true (nat_le size (1392 - place)) _ _ (le-leb size (1392 - place) (omega (arith, ends, most)))
    ∙ ap (λ (k : ℕ). x ∷ fitting r k rest) (let e' : 1392 - place - size ≡ 1392 - end = omega (arith, ends, most) in e')

drop_first : (xs : List Item) (x : Item) (rest : List Item) → xs ≡ x ∷ rest → rest ≡ drop 1 xs
drop_first xs x rest e = sym (ap (drop 1) e)

spelled_first : (c : Command) → flat_map command_spelling (c ∷ []) ≡ command_spelling c
spelled_first c = append-nil (command_spelling c)

pub written_first : (r : PeerRecord) (end : ℕ) (p : Peer) (before after : List ℕ) → WritesItem r 4 end p before after
    → HasWritten r end p before after
written_first r end p before after w =
    record {
      items = w.item ∷ [];
      some = λ e. absurd cc;
      stands = w.stands;
      fits = fits_one r 4 end (going_out r) w.item w.rest w.front w.put.ends w.fits
          ∙ ap (λ (xs : List Item). w.item ∷ fitting r (1392 - end) xs) (drop_first (going_out r) w.item w.rest w.front);
      put = subst (λ (bytes : List ℕ). PutsText bytes 4 end before after) (sym (spelled_first (item_command r w.item))) w.put;
      fit = (w.fit, tt);
      room = w.fits;
    }

fit_more : (cs : List Command) (c : Command) → AllByRecursion (λ c. Fit (all_fields c)) cs → Fit (all_fields c)
    → AllByRecursion (λ c. Fit (all_fields c)) (cs ++ c ∷ [])
fit_more [] c h fit = (fit, tt)
fit_more (d ∷ cs) c h fit = (h.0, fit_more cs c h.1 fit)

not_nil : (xs : List Item) (x : Item) → xs ++ x ∷ [] ≢ []
not_nil [] x e = absurd cc
not_nil (y ∷ xs) x e = absurd cc

pub written_more : (r : PeerRecord) (place end : ℕ) (p q : Peer) (before middle after : List ℕ) (h : HasWritten r place p before middle)
    → WritesItem (having_written (length h.items) r) place end q middle after → HasWritten r end q before after
written_more r place end p q before middle after h w =
    let n : ℕ = length h.items in
    let same : item_command (having_written n r) w.item ≡ item_command r w.item = item_same n r w.item in
    let left : drop n (going_out r) ≡ w.item ∷ w.rest = sym (going_out-less n r) ∙ w.front in
    let size : length (h.items ++ w.item ∷ []) ≡ suc n = omega (arith, length-append h.items (w.item ∷ [])) in
    let next : w.rest ≡ drop (suc n) (going_out r) =
    drop_first (drop n (going_out r)) w.item w.rest left ∙ drop-drop 1 n (going_out r)
    ∙ ap (λ (k : ℕ). drop k (going_out r)) (let e : n + 1 ≡ suc n = omega arith in e) in
    let put : PutsText (command_spelling (item_command r w.item)) place end middle after =
    subst (λ (c : Command). PutsText (command_spelling c) place end middle after) same w.put in
    let all : commands_of r (h.items ++ w.item ∷ []) ≡ commands_of r h.items ++ item_command r w.item ∷ [] =
    map-append (item_command r) h.items (w.item ∷ []) in
    record {
      items = h.items ++ w.item ∷ [];
      some = not_nil h.items w.item;
      stands = subst (IsPeerOf q) (sym (ap (λ (k : ℕ). having_written k r) size ∙ having_written-more n r)) w.stands;
      fits = h.fits
          ∙ ap (λ (xs : List Item). h.items ++ xs)
          (fits_one r place end (drop n (going_out r)) w.item w.rest left put.ends w.fits
          ∙ ap (λ (xs : List Item). w.item ∷ fitting r (1392 - end) xs) next)
          ∙ sym (append_assoc h.items (w.item ∷ []) (fitting r (1392 - end) (drop (suc n) (going_out r))))
          ∙ ap (λ (k : ℕ). (h.items ++ w.item ∷ []) ++ fitting r (1392 - end) (drop k (going_out r))) (sym size);
      put = subst (λ (bytes : List ℕ). PutsText bytes 4 end before after)
          (sym (ap (flat_map command_spelling) all ∙ flat_map-append command_spelling (commands_of r h.items) (item_command r w.item ∷ [])
          ∙ ap (λ (bytes : List ℕ). flat_map command_spelling (commands_of r h.items) ++ bytes) (spelled_first (item_command r w.item))))
          (puts_then h.put put);
      fit = subst (AllByRecursion (λ c. Fit (all_fields c))) (sym all)
          (fit_more (commands_of r h.items) (item_command r w.item) h.fit (subst (λ (c : Command). Fit (all_fields c)) same w.fit));
      room = w.fits;
    }

-- nothing more fits
too_long : (n : ℕ) (r : PeerRecord) (place : ℕ) (xs : List Item) → place ≤ 1392 → xs ≡ going_out (having_written n r)
    → (going_out (having_written n r) ≡ []) ⊎ IsTooLong (having_written n r) place → fitting r (1392 - place) xs ≡ []
too_long n r place xs most e (inl none) = ap (fitting r (1392 - place)) (e ∙ none)
too_long n r place xs most e (inr long) =
    let size : ℕ = length (command_spelling (item_command r long.item)) in
    let same : length (command_spelling (item_command (having_written n r) long.item)) ≡ size =
    ap (λ (c : Command). length (command_spelling c)) (item_same n r long.item) in
    let past : 1392 < place + size = omega (arith, long.long, same) in
    ap (fitting r (1392 - place)) (e ∙ long.front)
    ∙ cond-false (nat_le size (1392 - place)) _ _ (lt-leb size (1392 - place) (omega (arith, past, most)))

pub written_all : (r : PeerRecord) (place : ℕ) (p q : Peer) (before middle after : List ℕ) (h : HasWritten r place p before middle)
    → WritesOne (having_written (length h.items) r) place None q middle after
    → (next_items r ≡ h.items) × IsPeerOf q (having_written (length h.items) r) × (after ≡ middle)
unfolding next_items
written_all r place p q before middle after h w =
    let n : ℕ = length h.items in (
      h.fits ∙ ap (λ (xs : List Item). h.items ++ xs)
          (too_long n r place (drop n (going_out r)) h.room (sym (going_out-less n r)) w.0) ∙ append-nil h.items,
      w.1,
      w.2,
    )

-- ---- nothing is to be written

only_nothing : (r : PeerRecord) → (going_out r ≡ []) ⊎ IsTooLong r 4 → going_out r ≡ []
only_nothing r (inl none) = none
only_nothing r (inr long) = absurd (let past = long.long in let short = long.short in omega (arith, past, short))

pub wrote_none : (r : PeerRecord) (now : ℕ) (p q : Peer) (before after : List ℕ) → WritesOne (at_moment now r) 4 None q before after
    → WritesNext r now None q before after
unfolding next_items wrote_next
wrote_none r now p q before after w =
    let t : PeerRecord = at_moment now r in
    let none : going_out t ≡ [] = only_nothing t w.0 in
    let items : next_items t ≡ [] = ap (fitting t 1388) none in (
      none,
      subst (IsPeerOf q) (sym (ap (λ (xs : List Item). having_written (length xs) t) items ∙ having_written-zero t)) w.1,
      w.2,
    )

-- ---- a whole datagram

some_datagram : (r : PeerRecord) (xs : List Item) → xs ≢ [] → datagram_if r xs ≡ Some (items_datagram r xs)
some_datagram r [] some = absurd (some refl)
some_datagram r (x ∷ xs) some = refl

address_small : (other : Option ℕ) → address other < 4096
address_small None = omega arith
address_small (Some other) = omega arith

commands_some : (r : PeerRecord) (xs : List Item) → xs ≢ [] → commands_of r xs ≢ []
commands_some r [] some e = some refl
commands_some r (x ∷ xs) some e = absurd cc

-- a header that is written in front of what was written behind its place
header_first : (head body : List ℕ) (place end : ℕ) (before middle after : List ℕ) → length head ≡ 4 → 4 ≤ length before → PutsText body 4 place before middle
    → PutsText head 0 end middle after → after ≡ (head ++ body) ++ drop place before
header_first head body place end before middle after four long puts first =
    let at : end ≡ 4 = omega (arith, first.ends, four) in
    let short : length (take 4 before) ≡ 4 = length-take-le 4 before long in
    let front : take 4 after ≡ head = subst (λ (k : ℕ). take k after ≡ head) at first.front in
    let rest : drop 4 after ≡ drop 4 middle = subst (λ (k : ℕ). drop k after ≡ drop k middle) at first.rest in
    let whole : middle ≡ take 4 before ++ (body ++ drop place before) =
    sym (take-append-drop place middle) ∙ ap (λ (l : List ℕ). l ++ drop place middle) puts.front
    ∙ ap (λ (l : List ℕ). (take 4 before ++ body) ++ l) puts.rest ∙ append_assoc (take 4 before) body (drop place before) in
    let behind : drop 4 middle ≡ body ++ drop place before =
    ap (drop 4) whole ∙ ap (λ (k : ℕ). drop k (take 4 before ++ (body ++ drop place before))) (sym short)
    ∙ drop-append_seam (take 4 before) (body ++ drop place before) in
    sym (take-append-drop 4 after) ∙ ap (λ (l : List ℕ). l ++ drop 4 after) front
    ∙ ap (λ (l : List ℕ). head ++ l) (rest ∙ behind) ∙ sym (append_assoc head body (drop place before))

pub wrote_datagram : (r : PeerRecord) (now place end peer sent : ℕ) (p q : Peer) (before middle out after : List ℕ)
    → (h : HasWritten (at_moment now r) place p before middle) → WritesOne (having_written (length h.items) (at_moment now r)) place None q middle out
    → peer ≡ address q.other → sent ≡ q.moment % 65536 → PutsFields (u16 (peer + 32768) ∷ u16 sent ∷ []) 0 end out after → 1392 ≤ length before
    → WritesDatagram r now place q before after
unfolding wrote_next
wrote_datagram r now place end peer sent p q before middle out after h w peer_is sent_is puts long =
    let t : PeerRecord = at_moment now r in
    let all = written_all t place p q before middle out h w in
    let d : Datagram = items_datagram t h.items in
    let to : address t.other ≡ peer = ap address all.1.other ∙ sym peer_is in
    let time : t.now % 65536 ≡ sent = ap (λ (n : ℕ). n % 65536) all.1.now ∙ sym sent_is in
    let word : peer + 32768 ≡ address t.other + 4096 * 0 + 32768 * 1 = omega (arith, to) in
    let fields : fields_bytes (u16 (peer + 32768) ∷ u16 sent ∷ []) ≡ fields_bytes (header d) =
    ap (λ (n : ℕ). fields_bytes (u16 n ∷ u16 sent ∷ [])) word
    ∙ ap (λ (n : ℕ). fields_bytes (u16 (address t.other + 4096 * 0 + 32768 * 1) ∷ u16 n ∷ [])) (sym time) in
    let head : PutsText (fields_bytes (header d)) 0 end out after = subst (λ (bytes : List ℕ). PutsText bytes 0 end out after) fields puts.puts in
    let head' : PutsText (fields_bytes (header d)) 0 end middle after = subst (λ (l : List ℕ). PutsText (fields_bytes (header d)) 0 end l after) all.2 head in
    let size : place ≡ length (spelling d) =
    omega (arith, h.put.ends, length-append (fields_bytes (header d)) (flat_map command_spelling (commands_of t h.items))) in
    record {
      datagram = d;
      is_next = ap (datagram_if t) all.0 ∙ some_datagram t h.items h.some;
      stands = subst (IsPeerOf q) (sym (ap (λ (xs : List Item). having_written (length xs) t) all.0)) all.1;
      sized = size;
      written = header_first (fields_bytes (header d)) (flat_map command_spelling (commands_of t h.items)) place end before middle after refl
          (omega (arith, long)) h.put head';
      spelled = spelling_again d (record {
        peer = address_small t.other;
        session = refl;
        timed = refl;
        sent = (omega arith, tt);
        some = commands_some t h.items h.some;
        short = (let room = h.room in omega (arith, size, room));
        fit = h.fit;
      });
    }
