-- What a sound store answers to an append: the number it is due, or acceptance. Assumes nothing.
use Prim.Native.Nat.{ℕ, ◌+◌, ◌*◌}
use mathlib.Core.Path.{◌≡◌, refl, ap, ◌∙◌, subst}
use mathlib.Core.Logic.{◌⊎◌, inl, inr, ⊎_elim}
use mathlib.Core.Bool.{Bool, true, false, cond}
use mathlib.Core.Option.{Option, none, some}
use mathlib.Core.List.{List}
use native.Mathlib.Omega.{arith}
use lib.ListN.{length}
use borrow.Author.Tests.{le-leb}
use Rattle.limits.specs.Limits.{record_extra}
use Rattle.memory_arena.specs.declared.Arena.{Arena}
use Rattle.memory_arena.specs.Pages.{MaybeRoom, room_at, room_for}
use Rattle.shared_arena_hashmap.specs.declared.Met.TheVariants.{Empty, Standing, Lap}
use Rattle.expull_header.specs.declared.Header.{Header}
use Rattle.expull_header.specs.Header.{fresh}
use Rattle.expull_append.specs.Append.{Writing, writing, appended, good_tail}
use Rattle.store_append.specs.declared.Appended.TheVariants.{Accepted}
use Rattle.store_state.specs.declared.Name.{Name}
use Rattle.store_state.specs.declared.Name.TheVariants.{TooLong, Nameless, Proper}
use Rattle.store_state.specs.Name.{name_kind}
use Rattle.records.specs.Record.{header_of, header_sound}
use Rattle.store_look.specs.Look.{Lent, checked, walk_of}
use Rattle.store_append.specs.Append.{Out, out, declined, is_saturated, is_crowded, standing_written, new_written}
use Rattle.store_append.specs.Append.{on_key_room, append_new}
use Rattle.store_append.proofs.Cases.{append_3, append_13, append-met, met-standing, met_empty, met_lap, new_5}
use Rattle.store_append.proofs.Cases.{new-room, standing_on}
use Rattle.store.proofs.Kept.{append-whole}
use Rattle.history_lanes.specs.Lane.{arena_of, HeaderFits}
use Rattle.history_lanes.proofs.Readings.{lane-header, lane_tail}
use Rattle.history_lanes.proofs.Plan.{lane_plan}
use Rattle.history_names.specs.Table.{Records}
use Rattle.history_names.proofs.Lookup.{decide_member, finds, misses}
use Rattle.history.specs.History.{World, append_in}
use Rattle.history.specs.Due.{due_blocks, due_record, due_list, due_new}
use Rattle.history.specs.Sound.{Ghosts, Stands, Sound}
use Rattle.history.proofs.Records.{record_key, record-good, record-header, record-sound}
use Rattle.history.proofs.Kept.{Took, key_stands, standing_left, took_standing, new-left, took_new}
use Rattle.std.specs.Prelude.{Some, None}

-- ---- the lookup of a name in a sound store

module _ {w : World} {G : Ghosts} (S : Sound w G) where
  pub sound-records : Records w.memory.keys w.state.key_arena G.place G.names
  sound-records k m = (record-good (S.records k m) (key_stands S), record_key (S.records k m))

  pub fits : (name : List ℕ) → Stands G name → HeaderFits (G.header name)
  fits name M =
      lane-header w.memory.lists w.state.list_arena (G.header name) (G.blocks name) (S.lanes name M)

  pub header_is : (name : List ℕ) → Stands G name → header_of w.memory.keys (G.place name) ≡ G.header name
  header_is name M = record-header (S.records name M) (key_stands S) (fits name M)

  pub header_fine : (name : List ℕ) → Stands G name → header_sound w.memory.keys (G.place name) ≡ true
  header_fine name M = record-sound (S.records name M) (key_stands S) (fits name M)

  pub walk_finds : (name : List ℕ) → Stands G name → (walk_of w.state w.memory name).met ≡ Standing (G.place name)
  unfolding walk_of
  walk_finds name M = finds S.table w.memory.keys w.state.key_arena sound-records name M

  -- a lap finds no empty bucket only where the table is saturated
  pub walk-misses : (name : List ℕ) → (Stands G name → ⊥)
      → ((walk_of w.state w.memory name).met ≡ Empty) ⊎
      (((walk_of w.state w.memory name).met ≡ Lap) × (is_saturated w.state ≡ true))
  unfolding walk_of
  walk-misses name M =
      ⊎_elim (λ e. inl e) (λ e. inr
      (e.0, le-leb w.state.buckets (2 * w.state.keys) (omega (arith, e.1, S.counted))))
      (misses S.table w.memory.keys w.state.key_arena sound-records name M)

-- ---- an append

pub record Declines (w : World) (name bytes : List ℕ) (number : ℕ) : Type 0 where
  pub some_number : number ≡ 0 → ⊥
  pub said : append_in w name bytes ≡ declined w.state w.memory number

pub record Accepts (w : World) (G : Ghosts) (name bytes : List ℕ) (number : ℕ) : Type 0 where
  pub no_number : number ≡ 0
  pub world : World
  pub said : append_in w name bytes ≡ out (Accepted world.state) world.memory
  pub took : Took w G name bytes world

-- the answer where this number is due
abbrev pub Answers : World → Ghosts → List ℕ → List ℕ → ℕ → Type 0
Answers w G name bytes number = Declines w name bytes number ⊎ Accepts w G name bytes number

module _ {w : World} {G : Ghosts} (S : Sound w G) (name bytes : List ℕ) where
  -- a name that is too long
  pub answers-long : name_kind w.state (length name) ≡ TooLong → Declines w name bytes 3
  answers-long k = record {
    some_number = λ z. omega arith;
    said = append_3 w.state w.memory name bytes S.whole k;
  }

  -- the empty name
  pub answers-nameless : name_kind w.state (length name) ≡ Nameless → Declines w name bytes 13
  answers-nameless k = record {
    some_number = λ z. omega arith;
    said = append_13 w.state w.memory name bytes S.whole k;
  }

  -- what is accepted passes the next call's check
  accepted_whole : (v : World) → append_in w name bytes ≡ out (Accepted v.state) v.memory
      → checked v.state v.memory ≡ true
  accepted_whole v p =
      subst (λ (m : Lent). checked v.state m ≡ true) (ap (λ (o : Out). o.memory) p)
      (append-whole w.state w.memory name bytes v.state (ap (λ (o : Out). o.answer) p))

  module _ (proper : name_kind w.state (length name) ≡ Proper) where
    -- a standing name
    answers_written : (M : Stands G name) (o : Option Writing)
        → appended bytes (writing w.memory.lists w.state.list_arena (G.header name)) ≡ o
        → append_in w name bytes ≡ standing_written o w.state w.memory (G.place name)
        → Answers w G name bytes (due_blocks (arena_of o))
    unfolding standing_written
    answers_written M none e p = inl (record { some_number = λ z. omega arith; said = p })
    answers_written M (some v) e p =
        inr (record {
          no_number = refl;
          world = standing_left S name bytes M v e;
          said = p;
          took = took_standing S name bytes M v e (accepted_whole (standing_left S name bytes M v e) p);
        })

    pub answers-standing : Stands G name
        → Answers w G name bytes (due_list w.state w.memory (G.header name) (length bytes))
    unfolding due_list
    answers-standing M =
        rw (lane_plan w.memory.lists w.state.list_arena (G.header name) bytes)
        (answers_written M (appended bytes (writing w.memory.lists w.state.list_arena (G.header name))) refl
        (append-met w.state w.memory name bytes (Standing (G.place name)) S.whole proper (walk_finds S name M)
        ∙ met-standing w.state w.memory name bytes (G.place name)
        ∙ standing_on w.state w.memory name bytes (G.place name)
        (appended bytes (writing w.memory.lists w.state.list_arena (G.header name)))
        (header_fine S name M)
        (ap (good_tail w.state.list_arena) (header_is S name M)
        ∙ lane_tail w.memory.lists w.state.list_arena (G.header name) (G.blocks name) (S.lanes name M))
        (ap (λ (h : Header). appended bytes (writing w.memory.lists w.state.list_arena h))
        (header_is S name M))))

    -- a new name
    module _ (M : Stands G name → ⊥) where
      goes_new : append_in w name bytes ≡ append_new w.state w.memory name bytes
      goes_new =
          ⊎_elim
          (λ e. append-met w.state w.memory name bytes Empty S.whole proper e
          ∙ met_empty w.state w.memory name bytes)
          (λ e. append-met w.state w.memory name bytes Lap S.whole proper e.0
          ∙ met_lap w.state w.memory name bytes e.1)
          (walk-misses S name M)

      new_written_lem : (loose : is_crowded w.state ≡ false) (at : ℕ) (ka : Arena)
          → room_for w.state.key_arena (length w.memory.keys) (length name + record_extra) ≡ room_at at ka
          → (o : Option Writing)
          → appended bytes (writing w.memory.lists w.state.list_arena fresh) ≡ o
          → append_in w name bytes ≡ new_written o w.state w.memory name at ka
          → Answers w G name bytes (due_blocks (arena_of o))
      unfolding new_written
      new_written_lem loose at ka r none e p = inl (record { some_number = λ z. omega arith; said = p })
      new_written_lem loose at ka r (some v) e p =
          inr (record {
            no_number = refl;
            world = new-left S name bytes M proper loose at ka r v e;
            said = p;
            took =
                took_new S name bytes M proper loose at ka r v e
                (accepted_whole (new-left S name bytes M proper loose at ka r v e) p);
          })

      new_roomed : (loose : is_crowded w.state ≡ false) (r : MaybeRoom)
          → room_for w.state.key_arena (length w.memory.keys) (length name + record_extra) ≡ r
          → append_in w name bytes ≡ on_key_room r w.state w.memory name bytes
          → Answers w G name bytes (due_record r (due_list w.state w.memory fresh (length bytes)))
      unfolding on_key_room due_list
      new_roomed loose (Some found) r p =
          rw (lane_plan w.memory.lists w.state.list_arena fresh bytes)
          (new_written_lem loose found.at found.after r
          (appended bytes (writing w.memory.lists w.state.list_arena fresh)) refl p)
      new_roomed loose None r p = inl (record { some_number = λ z. omega arith; said = p })

      pub answers-new : Answers w G name bytes (due_new w.state w.memory name (length bytes))
      unfolding due_new
      answers-new = go (is_crowded w.state) refl
        where
          go : (b : Bool) → is_crowded w.state ≡ b
              → Answers w G name bytes
              (cond b 5 (due_record (room_for w.state.key_arena (length w.memory.keys)
              (length name + record_extra))
              (due_list w.state w.memory fresh (length bytes))))
          go true e =
              inl (record {
                some_number = λ z. omega arith;
                said = goes_new ∙ new_5 w.state w.memory name bytes e;
              })
          go false e =
              new_roomed e (room_for w.state.key_arena (length w.memory.keys) (length name + record_extra)) refl
              (goes_new ∙ new-room w.state w.memory name bytes e
              (room_for w.state.key_arena (length w.memory.keys) (length name + record_extra)) refl)

  -- whatever the name
  pub answers_any : (number : ℕ) × Answers w G name bytes number
  answers_any = go (name_kind w.state (length name)) refl (decide_member name G.names)
    where
      go : (k : Name) → name_kind w.state (length name) ≡ k → Dec (Stands G name)
          → (number : ℕ) × Answers w G name bytes number
      go TooLong e d = (3, inl (answers-long e))
      go Nameless e d = (13, inl (answers-nameless e))
      go Proper e (yes m) = (due_list w.state w.memory (G.header name) (length bytes), answers-standing e m)
      go Proper e (no m) = (due_new w.state w.memory name (length bytes), answers-new e m)
