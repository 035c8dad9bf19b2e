-- Laws of records: when one is a good span, what its header says, its bytes as code writes them. Assumes nothing.
use Prim.Native.Nat.{ℕ, ◌+◌, ◌≤◌}
use mathlib.Core.Path.{◌≡◌, refl, sym, ◌∙◌, subst}
use mathlib.Core.Bool.{Bool, true, false, cond}
use mathlib.Core.List.{List, ◌++◌}
use lib.ListN.{length}
use Rattle.limits.specs.Limits.{record_extra}
use Rattle.numbers.proofs.Tests.{both, left_false}
use Rattle.spans.specs.Span.{overwrite}
use Rattle.spans.proofs.Laws.{overwrite-append}
use Rattle.memory_arena.specs.declared.Arena.{Arena}
use Rattle.memory_arena.specs.Pages.{good_span}
use Rattle.memory_arena.specs.Calls.{sensible}
use Rattle.memory_arena.proofs.Laws.{good-in, sensible_facts}
use Rattle.records.specs.Record.{key_length, good_record, value_place, header_of, header_sound, head_of, record_bytes}
use Rattle.expull_header.specs.declared.Header.{Header}
use Rattle.expull_header.specs.Header.{end_bytes_at, sound_header, header_bytes}
use Rattle.expull_header.proofs.Laws.{sound_facts}
use Rattle.std.specs.Prelude.{Some, None}
use Rattle.numbers.specs.LittleEndian.{le_bytes}
use Rattle.numbers.proofs.Laws.{length_le}

pub record_short : (a : Arena) (keys : List ℕ) (at : ℕ) → good_span a at 2 ≡ false → good_record a keys at ≡ false
unfolding good_record
record_short a keys at e = left_false _ _ e

pub record-whole : (a : Arena) (keys : List ℕ) (at n : ℕ) → good_span a at 2 ≡ true → n ≡ key_length keys at
    → good_span a at (n + record_extra) ≡ good_record a keys at
unfolding good_record
record-whole a keys at n e f = rw (e, f)

-- a good record lies in the key pages
pub good-record-in : (a : Arena) (keys : List ℕ) (at : ℕ) → sensible a (length keys) ≡ true
    → good_record a keys at ≡ true
    → at + (key_length keys at + record_extra) ≤ length keys
unfolding good_record
good-record-in a keys at s g =
    good-in a at (key_length keys at + record_extra) (length keys) (sensible_facts a (length keys) s).stands
    (both (good_span a at 2) (good_span a at (key_length keys at + record_extra)) g).1

pub head-sound : (keys : List ℕ) (at : ℕ) → header_sound keys at ≡ true → head_of keys at ≡ Some (header_of keys at)
unfolding head_of
head-sound keys at e = rw e

pub head-broken : (keys : List ℕ) (at : ℕ) → header_sound keys at ≡ false → head_of keys at ≡ None
unfolding head_of
head-broken keys at e = rw e

-- what the header that was found says
pub record Headed (keys : List ℕ) (at : ℕ) (h : Header) : Type 0 where
  pub sound : header_sound keys at ≡ true
  pub is : h ≡ header_of keys at
  pub ends : sound_header h 0 ≡ true

pub head-found : (keys : List ℕ) (at : ℕ) (h : Header) → head_of keys at ≡ Some h → Headed keys at h
unfolding head_of header_sound
head-found keys at h e = go (header_sound keys at) refl e
  where
    go : (b : Bool) → header_sound keys at ≡ b → cond b (Some (header_of keys at)) None ≡ Some h → Headed keys at h
    go true p e =
        let z : header_of keys at ≡ h = cc in
        let s = sound_facts (header_of keys at) (end_bytes_at (value_place keys at) keys) p in
        record {
          sound = p;
          is = sym z;
          ends = subst (λ (g : Header). sound_header g 0 ≡ true) z
              (subst (λ (n : ℕ). sound_header (header_of keys at) n ≡ true) s.closed p);
        }
    go false p e = cc

pub head_lost : (keys : List ℕ) (at : ℕ) → head_of keys at ≡ None → header_sound keys at ≡ false
unfolding head_of
head_lost keys at e = go (header_sound keys at) refl e
  where
    go : (b : Bool) → header_sound keys at ≡ b → cond b (Some (header_of keys at)) None ≡ None
        → header_sound keys at ≡ false
    go true p e = cc
    go false p e = p

pub record_written : (at : ℕ) (name : List ℕ) (h : Header) (m : List ℕ)
    → overwrite (at + 2 + length name) (header_bytes h)
    (overwrite (at + 2) name (overwrite at (le_bytes 2 (length name)) m)) ≡ overwrite at (record_bytes name h) m
unfolding record_bytes
record_written at name h m =
    sym (overwrite-append at (le_bytes 2 (length name)) (name ++ header_bytes h) m
    ∙ rw (length_le 2 (length name))
    (overwrite-append (at + 2) name (header_bytes h) (overwrite at (le_bytes 2 (length name)) m)))
