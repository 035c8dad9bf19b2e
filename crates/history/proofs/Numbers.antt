-- The number of every call's answer, in a store that reads as a history says. Assumes nothing.
use Prim.Native.Nat.{ℕ, ◌+◌, ◌≤◌}
use mathlib.Core.Path.{◌≡◌, refl, ap, ◌∙◌, subst, sym}
use mathlib.Core.Logic.{◌≢◌}
use mathlib.Core.Bool.{Bool, true, false, cond, false≢true}
use mathlib.Core.Option.{Option, none, some}
use mathlib.Core.List.{List, [], ◌∷◌}
use lib.Dec.{leb, ltb}
use lib.ListN.{length}
use borrow.Author.Tests.{leb-true, leb-false, ltb-true, ltb-false}
use Rattle.limits.specs.Limits.{record_extra}
use Rattle.memory_arena.specs.declared.Arena.{Arena}
use Rattle.memory_arena.specs.Pages.{MaybeRoom, room_for}
use Rattle.expull_header.specs.declared.Header.{Header}
use Rattle.expull_header.specs.Header.{fresh}
use Rattle.expull_append.specs.Append.{plan_of}
use Rattle.store_state.specs.declared.State.{State}
use Rattle.store_look.specs.declared.Lookup.{Lookup}
use Rattle.store_look.specs.declared.Lookup.TheVariants.{Missing, Failed}
use Rattle.store_state.specs.declared.Name.{Name}
use Rattle.store_state.specs.declared.Name.TheVariants.{TooLong, Nameless, Proper}
use Rattle.store_look.specs.declared.Listed.{Listed}
use Rattle.store_look.specs.declared.Listed.TheVariants.{Bucket, NoMore, Stopped}
use Rattle.store_state.specs.Name.{name_limit_of, name_kind, by_kind}
use Rattle.store_look.specs.Look.{Lent, checked, Read, lookup_of, on_lookup, on_lookup_read, length_at, length_of, read_at}
use Rattle.store_look.specs.Look.{read_of, block_at, find_block_of, next_of}
use Rattle.store_append.specs.Append.{is_crowded}
use Rattle.store_state.proofs.Guard.{kind-length}
use Rattle.store_look.proofs.Found.{lookup_3, lookup-nameless}
use Rattle.history.specs.History.{World, Call, appends, looks_up, asks_length, reads, finds_block, shows_block}
use Rattle.history.specs.History.{lists_from, counts_keys}
use Rattle.history.specs.Due.{shape_of, due_blocks, due_record, due_list, due_new, due_by, due}
use Rattle.history.specs.Numbers.{lookup_number, answer_number, listed_number, counted_number, number_of}
use Rattle.history.specs.Numbers.{due_named, due_read, due_of, numbers_of, is_one_of}
use Rattle.history.specs.Promises.{blocks_for, ReadsAs, AnswersDue, HasNames}
use Rattle.std.specs.Prelude.{Some, None}

-- ---- which numbers can be due

-- of an append
abbrev due_numbers : List ℕ
due_numbers = 3 ∷ 13 ∷ 5 ∷ 6 ∷ 7 ∷ []

listed_blocks : (o : Option Arena) → is_one_of due_numbers (due_blocks o) ≡ true
listed_blocks none = refl
listed_blocks (some a) = refl

listed_list : (st : State) (m : Lent) (h : Header) (n : ℕ) → is_one_of due_numbers (due_list st m h n) ≡ true
unfolding due_list
listed_list st m h n = listed_blocks (plan_of (length m.lists) st.list_arena h n)

listed_record : (r : MaybeRoom) (n : ℕ) → is_one_of due_numbers n ≡ true → is_one_of due_numbers (due_record r n) ≡ true
listed_record (Some r) n e = e
listed_record None n e = refl

listed_new : (st : State) (m : Lent) (name : List ℕ) (n : ℕ) → is_one_of due_numbers (due_new st m name n) ≡ true
unfolding due_new
listed_new st m name n = go (is_crowded st)
  where
    room : MaybeRoom
    room = room_for st.key_arena (length m.keys) (length name + record_extra)

    go : (b : Bool) → is_one_of due_numbers (cond b 5 (due_record room (due_list st m fresh n))) ≡ true
    go true = refl
    go false = listed_record room (due_list st m fresh n) (listed_list st m fresh n)

listed_by : (st : State) (m : Lent) (name : List ℕ) (o : Option (List ℕ)) (n : ℕ)
    → is_one_of due_numbers (due_by st m name o n) ≡ true
listed_by st m name none n = listed_new st m name n
listed_by st m name (some bs) n = listed_list st m (shape_of (length bs)) n

-- only 3, 13, 5, 6 and 7 are ever due
pub due_listed : (st : State) (m : Lent) (name : List ℕ) (stood : Option (List ℕ)) (n : ℕ)
    → is_one_of (3 ∷ 13 ∷ 5 ∷ 6 ∷ 7 ∷ []) (due st m name stood n) ≡ true
unfolding due
due_listed st m name stood n = go (name_kind st (length name))
  where
    go : (k : Name) → is_one_of due_numbers (by_kind k 3 13 (due_by st m name stood n)) ≡ true
    go TooLong = refl
    go Nameless = refl
    go Proper = listed_by st m name stood n

-- of a call on a name: 3, or what it may be due
named_listed : (ns : List ℕ) (st : State) (name : List ℕ) (n : ℕ) → is_one_of (3 ∷ ns) n ≡ true
    → is_one_of (3 ∷ ns) (due_named st name n) ≡ true
unfolding due_named
named_listed ns st name n e = go (name_kind st (length name))
  where
    go : (k : Name) → is_one_of (3 ∷ ns) (by_kind k 3 0 n) ≡ true
    go TooLong = refl
    go Nameless = refl
    go Proper = e

read_listed : (o : Option (List ℕ)) (output : List ℕ) → is_one_of (3 ∷ 8 ∷ []) (due_read o output) ≡ true
read_listed none output = refl
read_listed (some bs) output = go (leb (length bs) (length output))
  where
    go : (b : Bool) → is_one_of (3 ∷ 8 ∷ []) (cond b 0 8) ≡ true
    go true = refl
    go false = refl

pub due_of_listed : (c : Call) (w : World) (stood : List ℕ → Option (List ℕ))
    → is_one_of (numbers_of c) (due_of c w stood) ≡ true
due_of_listed (appends name bytes) w stood = due_listed w.state w.memory name (stood name) (length bytes)
due_of_listed (looks_up name) w stood = named_listed [] w.state name 0 refl
due_of_listed (asks_length name) w stood = named_listed [] w.state name 0 refl
due_of_listed (reads name output) w stood =
    named_listed (8 ∷ []) w.state name (due_read (stood name) output) (read_listed (stood name) output)
due_of_listed (finds_block name i) w stood = named_listed [] w.state name 0 refl
due_of_listed (shows_block at n) w stood = refl
due_of_listed (lists_from i) w stood = refl
due_of_listed counts_keys w stood = refl

no_2 : (c : Call) → is_one_of (numbers_of c) 2 ≡ false
no_2 (appends name bytes) = refl
no_2 (looks_up name) = refl
no_2 (asks_length name) = refl
no_2 (reads name output) = refl
no_2 (finds_block name i) = refl
no_2 (shows_block at n) = refl
no_2 (lists_from i) = refl
no_2 counts_keys = refl

no_4 : (c : Call) → is_one_of (numbers_of c) 4 ≡ false
no_4 (appends name bytes) = refl
no_4 (looks_up name) = refl
no_4 (asks_length name) = refl
no_4 (reads name output) = refl
no_4 (finds_block name i) = refl
no_4 (shows_block at n) = refl
no_4 (lists_from i) = refl
no_4 counts_keys = refl

pub never_these : (c : Call) (n : ℕ) → is_one_of (numbers_of c) n ≡ true → (n ≢ 2) × (n ≢ 4)
never_these c n e = (other 2 (no_2 c), other 4 (no_4 c))
  where
    other : (k : ℕ) → is_one_of (numbers_of c) k ≡ false → n ≢ k
    other k f q = false≢true (sym f ∙ subst (λ (n : ℕ). is_one_of (numbers_of c) n ≡ true) q e)

-- ---- the number that a call's answer has

module _ (w : World) (stood : List ℕ → Option (List ℕ)) (whole : checked w.state w.memory ≡ true)
    (R : (name : List ℕ) → length name ≤ name_limit_of w.state → ReadsAs w name (stood name)) (name : List ℕ) where
  abbrev kind : Name
  kind = name_kind w.state (length name)

  -- by what the guard says: of a lookup's answer that is no place, f is the number
  by-kind : (f : Lookup → ℕ) (n : ℕ) → f (Failed 3) ≡ 3 → f Missing ≡ 0
      → (ReadsAs w name (stood name) → f (lookup_of w.state w.memory name) ≡ n)
      → f (lookup_of w.state w.memory name) ≡ due_named w.state name n
  unfolding due_named
  by-kind f n p q r = go kind refl
    where
      go : (k : Name) → name_kind w.state (length name) ≡ k
          → f (lookup_of w.state w.memory name) ≡ by_kind k 3 0 n
      go TooLong e = ap f (lookup_3 w.state w.memory name whole e) ∙ p
      go Nameless e = ap f (lookup-nameless w.state w.memory name whole e) ∙ q
      go Proper e = r (R name (kind-length w.state (length name) Proper e).1)

  looks_up_lem : number_of (looks_up name) w ≡ due_named w.state name 0
  looks_up_lem = by-kind lookup_number 0 refl refl (go (stood name))
    where
      go : (o : Option (List ℕ)) → ReadsAs w name o → lookup_number (lookup_of w.state w.memory name) ≡ 0
      go none A = ap lookup_number A.missed
      go (some bs) A = ap lookup_number A.found

  asks_length_lem : number_of (asks_length name) w ≡ due_named w.state name 0
  unfolding length_of
  asks_length_lem =
      by-kind (λ (x : Lookup). answer_number (on_lookup x (length_at w.memory.keys))) 0 refl refl (go (stood name))
    where
      go : (o : Option (List ℕ)) → ReadsAs w name o → answer_number (length_of w.state w.memory name) ≡ 0
      go none A = ap answer_number A.unmeasured
      go (some bs) A = ap answer_number A.measured

  reads_on : (output : List ℕ) → number_of (reads name output) w ≡ due_named w.state name (due_read (stood name) output)
  unfolding read_of
  reads_on output =
      by-kind (λ (x : Lookup). answer_number (on_lookup_read x read_there output).answer) (due_read (stood name) output)
      refl refl (go (stood name))
    where
      read_there : ℕ → Read
      read_there at = read_at w.state w.memory at output

      fits : (bs : List ℕ) → ReadsAs w name (some bs) → (b : Bool) → leb (length bs) (length output) ≡ b
          → answer_number (read_of w.state w.memory name output).answer ≡ cond b 0 8
      fits bs A true e = ap (λ (r : Read). answer_number r.answer) (A.read output (leb-true _ _ e))
      fits bs A false e = ap (λ (r : Read). answer_number r.answer) (A.unread output (leb-false _ _ e))

      go : (o : Option (List ℕ)) → ReadsAs w name o
          → answer_number (read_of w.state w.memory name output).answer ≡ due_read o output
      go none A = ap (λ (r : Read). answer_number r.answer) (A.unread output)
      go (some bs) A = fits bs A (leb (length bs) (length output)) refl

  finds_block_lem : (i : ℕ) → number_of (finds_block name i) w ≡ due_named w.state name 0
  unfolding find_block_of
  finds_block_lem i =
      by-kind (λ (x : Lookup). answer_number (on_lookup x (block_at w.state w.memory i))) 0 refl refl
      (go (stood name))
    where
      met : (bs : List ℕ) → ReadsAs w name (some bs) → (b : Bool) → ltb i (blocks_for (length bs)) ≡ b
          → answer_number (find_block_of w.state w.memory name i) ≡ 0
      met bs A true e = ap answer_number (A.block i (ltb-true _ _ e)).2
      met bs A false e = ap answer_number (A.no_block i (ltb-false _ _ e))

      go : (o : Option (List ℕ)) → ReadsAs w name o → answer_number (find_block_of w.state w.memory name i) ≡ 0
      go none A = ap answer_number (A.no_block i)
      go (some bs) A = met bs A (ltb i (blocks_for (length bs))) refl

-- a listing that is never stopped
unstopped_number : (x : Listed) → ((n : ℕ) → x ≡ Stopped n → ⊥) → listed_number x ≡ 0
unstopped_number (Bucket i at) f = refl
unstopped_number NoMore f = refl
unstopped_number (Stopped n) f = absurd (f n refl)

module _ (w : World) (stood : List ℕ → Option (List ℕ)) (whole : checked w.state w.memory ≡ true)
    (R : (name : List ℕ) → length name ≤ name_limit_of w.state → ReadsAs w name (stood name))
    (A : (name bytes : List ℕ) → AnswersDue w name bytes (due w.state w.memory name (stood name) (length bytes)))
    (ns : List (List ℕ)) (N : HasNames w ns) where
  -- every call's answer has the number that the call is due
  pub number_due : (c : Call) → number_of c w ≡ due_of c w stood
  number_due (appends name bytes) = (A name bytes).said
  number_due (looks_up name) = looks_up_lem w stood whole R name
  number_due (asks_length name) = asks_length_lem w stood whole R name
  number_due (reads name output) = reads_on w stood whole R name output
  number_due (finds_block name i) = finds_block_lem w stood whole R name i
  number_due (shows_block at n) = refl
  number_due (lists_from i) = unstopped_number (next_of w.state w.memory i) (N.unstopped i)
  number_due counts_keys = ap counted_number N.told
