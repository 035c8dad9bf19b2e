-- A place that a piece handed back stays the lane's own, whatever calls follow. Assumes nothing.
use Prim.Native.Nat.{ℕ, suc, ◌+◌, ◌-◌, ◌≤◌, ◌<◌, min}
use mathlib.Core.Path.{◌≡◌, refl, sym, ap, ◌∙◌, subst}
use mathlib.Core.Bool.{Bool, true, false, cond}
use mathlib.Core.Option.{Option, none, some}
use mathlib.Core.List.{List, [], ◌∷◌, ◌++◌, append_assoc, append-nil}
use native.Mathlib.Omega.{arith}
use lib.Dec.{leb, ltb, eqb}
use lib.ListN.{length, length-append}
use lib.Seq.{length-take-le}
use borrow.Author.Tests.{leb-true, leb-false, ltb-true, ltb-false, eqb-true, eqb-false}
use Rattle.numbers.proofs.Tests.{both}
use Rattle.spans.specs.Span.{read_span, overwrite}
use Rattle.spans.proofs.Laws.{length-overwrite}
use Rattle.fastcmp.specs.Equal.{equal_bytes}
use Rattle.expull_header.specs.declared.Header.{Header}
use Rattle.expull_header.specs.Header.{block_count, full_bytes}
use Rattle.expull_walk.specs.Blocks.{block_place, block_length, good_blocks}
use Rattle.expull_walk.proofs.Laws.{blocks_fewer, find_at}
use Rattle.store_look.specs.declared.Lookup.{Lookup}
use Rattle.store_look.specs.declared.Lookup.TheVariants.{At, Missing, Failed}
use Rattle.store_look.specs.declared.Answer.TheVariants.{Found}
use Rattle.store_look.specs.declared.Outcome.TheVariants.{Block}
use Rattle.store_state.specs.Name.{name_limit_of}
use Rattle.records.specs.Record.{header_of, header_sound}
use Rattle.store_look.specs.Look.{lookup_of, blocks_sound, on_block, find_block_of}
use Rattle.records.proofs.Laws.{Headed, head-found, head-sound}
use Rattle.store_look.proofs.Found.{block_at_lem, block_found}
use Rattle.lane_pieces.specs.declared.Pieced.{Pieced}
use Rattle.lane_pieces.specs.Piece.{Out as PieceOut, piece_of}
use Rattle.lane_pieces.proofs.Places.{full-more-blocks, length-held}
use Rattle.lane_pieces.proofs.Pieces.{piece-looked}
use Rattle.lane_places.specs.declared.Place.{Place}
use Rattle.lane_places.specs.PieceOn.{beginning, Out, piece_on_of}
use Rattle.lane_places.specs.Promises.{Own}
use Rattle.lane_places.proofs.PieceOn.{on-looked}
use Rattle.lane_places.proofs.Own.{forget, alike, own-beginning, count_given, moved_on}
use Rattle.history.specs.History.{World, Call, Born, after, play, Entry, log_of, joined_on, joined_in, joined}
use Rattle.history.specs.Promises.{ReadsBack}
use Rattle.history.specs.Demand.{Demand3}
use Rattle.history.proofs.Demand.{demand_3}
use Rattle.history.proofs.Log.{joined-more}
use Rattle.history_pieces.specs.Going.{Turn, does, asks, calls_in, given_by, next_piece, gathered, lane_of}
use Rattle.history_pieces.proofs.Joined.{Front, stands, missing, piece_back, front-calls, front-piece}
use Rattle.history_places.specs.Promises.{place_in, GoesOn}

-- ---- one world

-- a place is the own one of a name's lane, if it stands
abbrev OwnIn : World → List ℕ → Place → Type 0
OwnIn w name p = (at : ℕ) → lookup_of w.state w.memory name ≡ At at
    → Own w.state.list_arena w.memory.lists (header_of w.memory.keys at) p

-- blocks of a lane that reads back
module _ (w : World) (name bs : List ℕ) (R : ReadsBack w name bs) where
  abbrev header : Header
  header = header_of w.memory.keys R.place

  sound-parts : (header_sound w.memory.keys R.place ≡ true)
      × (good_blocks w.state.list_arena w.memory.lists header.head (block_count header) ≡ true)
  unfolding blocks_sound
  sound-parts =
      both (header_sound w.memory.keys R.place)
      (good_blocks w.state.list_arena w.memory.lists header.head (block_count header)) R.blocks-good

  headed : Headed w.memory.keys R.place header
  headed = head-found w.memory.keys R.place header (head-sound w.memory.keys R.place sound-parts.0)

  good_to : (i : ℕ) → i ≤ block_count header
      → good_blocks w.state.list_arena w.memory.lists header.head i ≡ true
  good_to i l =
      blocks_fewer w.state.list_arena w.memory.lists header.head i (block_count header) l sound-parts.1

  -- a block that bytes lie in is one of them
  index_few : (i g : ℕ) → full_bytes i < g → g ≤ length bs → i < block_count header
  index_few i g l h = go (ltb i (block_count header)) refl
    where
      go : (b : Bool) → ltb i (block_count header) ≡ b → i < block_count header
      go true e = ltb-true i (block_count header) e
      go false e =
          absurd (omega (
            arith,
            length-held header headed.ends,
            R.length_rule,
            full-more-blocks (block_count header) i (ltb-false i (block_count header) e),
          ))

  -- and is found where it lies
  finds : (i : ℕ) → i < block_count header
      → find_block_of w.state w.memory name i
      ≡ Found (Block (block_place w.memory.lists header.head i) (block_length header i))
  finds i l =
      sym (block_at_lem w.state w.memory name i R.place R.found)
      ∙ block_found w.state w.memory i R.place header headed
      ∙ ap on_block (find_at w.state.list_arena w.memory.lists header i l (good_to (suc i) l))

-- a place that stays the lane's own, in a later world in which no block moved
module _ (v v' : World) (name bs bs' : List ℕ) (R : ReadsBack v name bs) (R' : ReadsBack v' name bs') (p : Place)
    (O : Own v.state.list_arena v.memory.lists (header v name bs R) p) (l : p.given ≤ length bs)
    (l' : p.given ≤ length bs')
    (stay : (i at n : ℕ) → find_block_of v.state v.memory name i ≡ Found (Block at n)
    → (k : ℕ) × (find_block_of v'.state v'.memory name i ≡ Found (Block at k))) where
  abbrev h : Header
  h = header v name bs R

  abbrev h' : Header
  h' = header v' name bs' R'

  same_place : (p.index ≡ 0 → ⊥) → block_place v.memory.lists h.head p.index
      ≡ block_place v'.memory.lists h'.head p.index
  same_place f =
      let few = index_few v name bs R p.index p.given (O.begun f) l in
      let few' = index_few v' name bs' R' p.index p.given (O.begun f) l' in
      let s = (stay p.index _ _ (finds v name bs R p.index few)).1 in
      let t = finds v' name bs' R' p.index few' in
      cc

  own-stays : Own v'.state.list_arena v'.memory.lists h' p
  unfolding block_place
  own-stays = go (eqb p.index 0) refl O.there
    where
      go : (b : Bool) → eqb p.index 0 ≡ b
          → cond b h.head p.block ≡ block_place v.memory.lists h.head p.index
          → Own v'.state.list_arena v'.memory.lists h' p
      go true e t =
          let z : p.index ≡ 0 = eqb-true p.index 0 e in
          record {
            there = rw e (ap (block_place v'.memory.lists h'.head) (sym z));
            good = good_to v' name bs' R' p.index (omega arith);
            ends = O.ends;
            begun = O.begun;
          }
      go false e t =
          let f = eqb-false p.index 0 e in
          let few' = index_few v' name bs' R' p.index p.given (O.begun f) l' in
          record {
            there = rw e (t ∙ same_place f);
            good = good_to v' name bs' R' p.index (omega arith);
            ends = O.ends;
            begun = O.begun;
          }

-- ---- along a history

-- what stands goes on standing
stands_on : (j : List ℕ) (log : List Entry) (bs : List ℕ) → (o : List ℕ) × (joined_in j log (some bs) ≡ some o)
unfolding joined_in
stands_on j [] bs = (bs, refl)
stands_on j (e ∷ log) bs = go (equal_bytes j e.name) (stands_on j log)
  where
    go : (b : Bool) → ((bs : List ℕ) → (o : List ℕ) × (joined_in j log (some bs) ≡ some o))
        → (o : List ℕ) × (joined_in j log (cond b (joined_on (some bs) e.bytes) (some bs)) ≡ some o)
    go true f = f (bs ++ e.bytes)
    go false f = f bs

module _ (capacity seed size : ℕ) (table keys lists : List ℕ) (w : World)
    (B : Born capacity seed size table keys lists w) (name : List ℕ) where
  demand : (calls : List Call) → Demand3 w calls
  demand = demand_3 capacity seed size table keys lists w B

  -- what holds after the calls done so far, of the place and of the bytes that were given
  record Inv (done : List Call) (p : Place) (got : List ℕ) : Type 0 where
    counted : p.given ≡ length got
    front : Front got (lane_of (joined name done w))
    own : OwnIn (play done w) name p
    unbegun : joined name done w ≡ none → p ≡ beginning

  later : (done more : List Call)
      → joined name (done ++ more) w ≡ joined_in name (log_of more (play done w)) (joined name done w)
  later done more =
      ap (λ (log : List Entry). joined_in name log none) ((demand done).log-more more)
      ∙ joined-more name (log_of done w) (log_of more (play done w)) none

  -- the bytes given so far are no more than the lane has
  given_few : (done : List Call) (p : Place) (got bs : List ℕ) → p.given ≡ length got
      → Front got (lane_of (joined name done w)) → joined name done w ≡ some bs → p.given ≤ length bs
  given_few done p got bs c F e =
      let q : bs ≡ got ++ F.rest = ap lane_of (sym e) ∙ F.is in
      omega (arith, ap length q, length-append got F.rest)

  inv-call : (done : List Call) (p : Place) (got : List ℕ) (c : Call) → Inv done p got → Inv (done ++ (c ∷ [])) p got
  inv-call done p got c I = go (joined name done w) refl
    where
      more : List Call
      more = c ∷ []

      F : Front got (lane_of (joined name (done ++ more) w))
      F = front-calls capacity seed size table keys lists w B name done more got I.front

      go : (o : Option (List ℕ)) → joined name done w ≡ o → Inv (done ++ more) p got
      go none e =
          let z : p ≡ beginning = I.unbegun e in
          record {
            counted = I.counted;
            front = F;
            own = λ at f. subst (Own (play (done ++ more) w).state.list_arena (play (done ++ more) w).memory.lists
                (header_of (play (done ++ more) w).memory.keys at)) (sym z) (own-beginning _ _ _);
            unbegun = λ f. z;
          }
      go (some bs) e =
          let s = stands_on name (log_of more (play done w)) bs in
          let e' : joined name (done ++ more) w ≡ some s.0 =
          later done more ∙ ap (joined_in name (log_of more (play done w))) e ∙ s.1 in
          let R = stands w done (demand done) name bs e in
          let R' = stands w (done ++ more) (demand (done ++ more)) name s.0 e' in
          let O = own-stays (play done w) (play (done ++ more) w) name bs s.0 R R' p (I.own R.place R.found)
          (given_few done p got bs I.counted I.front e) (given_few (done ++ more) p got s.0 I.counted F e')
          (λ i at n. (demand done).blocks_stay more name i at n) in
          record {
            counted = I.counted;
            front = F;
            own = λ at f.
                let q = R'.found in
                let z : R'.place ≡ at = cc in
                subst (λ (x : ℕ). Own (play (done ++ more) w).state.list_arena
                (play (done ++ more) w).memory.lists (header_of (play (done ++ more) w).memory.keys x) p) z O;
            unbegun = λ f. let z : ◌≡◌ {A = ℕ} 0 1 = cc in absurd (omega arith);
          }

  -- ---- a piece

  -- a lookup that found no record: nothing is given, and the place stays
  module _ (done : List Call) (p : Place) (output : List ℕ) (e : joined name done w ≡ none) where
    unfound : (l : Lookup) → lookup_of (play done w).state (play done w).memory name ≡ l → (at : ℕ) → l ≡ At at → ⊥
    unfound l f at g = go (leb (length name) (name_limit_of w.state)) refl
      where
        go : (b : Bool) → leb (length name) (name_limit_of w.state) ≡ b → ⊥
        go true h =
            let m = missing w done (demand done) name e (leb-true _ _ h) in
            let z : ◌≡◌ {A = ℕ} 0 1 = cc in omega arith
        go false h =
            let m = ((demand done).long_never name (leb-false _ _ h)).1 in
            let z : ◌≡◌ {A = ℕ} 0 1 = cc in omega arith

    absent_alike : (l : Lookup) → lookup_of (play done w).state (play done w).memory name ≡ l
        → ((piece_on_of (play done w).state (play done w).memory name p output).place ≡ p)
        × (forget (piece_on_of (play done w).state (play done w).memory name p output)
        ≡ piece_of (play done w).state (play done w).memory name p.given output)
    absent_alike (At at) f = absurd (unfound (At at) f at refl)
    absent_alike Missing f =
        let x = on-looked (play done w).state (play done w).memory name p output Missing f in
        let y = piece-looked (play done w).state (play done w).memory name p.given output Missing f in
        (ap (λ (o : Out). o.place) x, ap forget x ∙ sym y)
    absent_alike (Failed n) f =
        let x = on-looked (play done w).state (play done w).memory name p output (Failed n) f in
        let y = piece-looked (play done w).state (play done w).memory name p.given output (Failed n) f in
        (ap (λ (o : Out). o.place) x, ap forget x ∙ sym y)

  -- the same piece
  agrees : (done : List Call) (p : Place) (got output : List ℕ) → Inv done p got
      → forget (piece_on_of (play done w).state (play done w).memory name p output)
      ≡ piece_of (play done w).state (play done w).memory name (length got) output
  agrees done p got output I =
      go (joined name done w) refl
      ∙ ap (λ (n : ℕ). piece_of (play done w).state (play done w).memory name n output) I.counted
    where
      go : (o : Option (List ℕ)) → joined name done w ≡ o
          → forget (piece_on_of (play done w).state (play done w).memory name p output)
          ≡ piece_of (play done w).state (play done w).memory name p.given output
      go none e = (absent_alike done p output e (lookup_of (play done w).state (play done w).memory name) refl).1
      go (some bs) e =
          let R = stands w done (demand done) name bs e in
          (alike (play done w).state (play done w).memory name p output R.place R.found
          (I.own R.place R.found)).same

  -- how many bytes the next piece has
  next_count : (done : List Call) (got output bs : List ℕ) → joined name done w ≡ some bs → length got ≤ length bs
      → length (next_piece (play done w) name got output)
      ≡ count_given (piece_of (play done w).state (play done w).memory name (length got) output).answer
  next_count done got [] bs e l =
      let q = (piece_back w done (demand done) name (length got) []).no_place bs e l refl in
      ap (λ (o : PieceOut). length (given_by o.answer o.output)) q
      ∙ sym (ap (λ (o : PieceOut). count_given o.answer) q)
  next_count done got (x ∷ o) bs e l =
      let k : ℕ = min (length (x ∷ o)) (length bs - length got) in
      let part : List ℕ = read_span (length got) k bs in
      let q = (piece_back w done (demand done) name (length got) (x ∷ o)).gives bs e l (omega arith) in
      ap (λ (r : PieceOut). length (given_by r.answer r.output)) q
      ∙ length-take-le k (overwrite 0 part (x ∷ o)) (omega (arith, length-overwrite 0 part (x ∷ o)))
      ∙ sym (ap (λ (r : PieceOut). count_given r.answer) q)

  inv-piece : (done : List Call) (p : Place) (got output : List ℕ) → Inv done p got
      → Inv done (piece_on_of (play done w).state (play done w).memory name p output).place
      (got ++ next_piece (play done w) name got output)
  inv-piece done p got output I = go (joined name done w) refl
    where
      v : World
      v = play done w

      next : List ℕ
      next = next_piece v name got output

      p' : Place
      p' = (piece_on_of v.state v.memory name p output).place

      F : Front (got ++ next) (lane_of (joined name done w))
      F = front-piece capacity seed size table keys lists w B name done got output I.front

      go : (o : Option (List ℕ)) → joined name done w ≡ o → Inv done p' (got ++ next)
      go none e =
          let s : p' ≡ p = (absent_alike done p output e (lookup_of v.state v.memory name) refl).0 in
          let z : p ≡ beginning = I.unbegun e in
          let q : [] ≡ (got ++ next) ++ F.rest = ap lane_of (sym e) ∙ F.is in
          record {
            counted =
                ap (λ (x : Place). x.given) (s ∙ z)
                ∙ omega (arith, ap length q, length-append (got ++ next) F.rest);
            front = F;
            own = subst (OwnIn v name) (sym s) I.own;
            unbegun = λ f. s ∙ z;
          }
      go (some bs) e =
          let R = stands w done (demand done) name bs e in
          let A = alike v.state v.memory name p output R.place R.found (I.own R.place R.found) in
          let c : (piece_on_of v.state v.memory name p output).answer
          ≡ (piece_of v.state v.memory name (length got) output).answer =
          ap (λ (o : PieceOut). o.answer) (agrees done p got output I) in
          let n = next_count done got output bs e
          (omega (arith, I.counted, given_few done p got bs I.counted I.front e)) in
          record {
            counted =
                moved_on v.state v.memory name p output
                ∙ ap (λ (r : Pieced). p.given + count_given r) c
                ∙ omega (arith, I.counted, n, length-append got next);
            front = F;
            own = λ at f.
                let q = R.found in
                let z : R.place ≡ at = cc in
                subst (λ (x : ℕ). Own v.state.list_arena v.memory.lists (header_of v.memory.keys x) p') z
                A.own;
            unbegun = λ f. let z : ◌≡◌ {A = ℕ} 0 1 = cc in absurd (omega arith);
          }

  -- ---- all of them

  going : (ts : List Turn) (done : List Call) (p : Place) (got : List ℕ) → Inv done p got
      → Inv (done ++ calls_in ts) (place_in name ts (play done w) p) (gathered name ts (play done w) got)
  unfolding place_in gathered play
  going [] done p got I = subst (λ (l : List Call). Inv l p got) (sym (append-nil done)) I
  going (does c ∷ ts) done p got I =
      let H = going ts (done ++ (c ∷ [])) p got (inv-call done p got c I) in
      subst (λ (l : List Call).
      Inv l (place_in name ts (after c (play done w)) p) (gathered name ts (after c (play done w)) got))
      (append_assoc done (c ∷ []) (calls_in ts))
      (subst (λ (v : World). Inv ((done ++ (c ∷ [])) ++ calls_in ts) (place_in name ts v p) (gathered name ts v got))
      ((demand done).play-more (c ∷ [])) H)
  going (asks output ∷ ts) done p got I =
      going ts done (piece_on_of (play done w).state (play done w).memory name p output).place
      (got ++ next_piece (play done w) name got output) (inv-piece done p got output I)

  -- SIX, from place to place: the same pieces, whatever is appended in between
  pub goes_on : (ts : List Turn) (output : List ℕ) → GoesOn w name ts output
  unfolding play log_of joined_in
  goes_on ts output =
      let I = going ts [] beginning [] (record {
        counted = refl;
        front = record { rest = []; is = refl };
        own = λ at e. own-beginning _ _ _;
        unbegun = λ e. refl;
      }) in
      let q = agrees (calls_in ts) (place_in name ts w beginning) (gathered name ts w []) output I in
      record {
        counted = I.counted;
        same_answer = ap (λ (o : PieceOut). o.answer) q;
        same_output = ap (λ (o : PieceOut). o.output) q;
      }
