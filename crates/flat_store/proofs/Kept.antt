-- What any history of appends comes to. Assumes nothing.
use Prim.Native.Nat.{ℕ, ◌+◌, ◌≤◌, ◌<◌}
use mathlib.Core.Path.{◌≡◌, refl, sym, ap, ◌∙◌, subst}
use mathlib.Core.Logic.{◌≢◌}
use mathlib.Core.Bool.{Bool, true, false, cond}
use mathlib.Core.Option.{none}
use mathlib.Core.List.{List, [], ◌∷◌, ◌++◌, append_assoc, append-nil}
use native.Mathlib.Omega.{arith}
use lib.Dec.{leb, ltb}
use lib.ListN.{length, length-append}
use borrow.Author.Tests.{le-leb, leb-true, leb-false, eq-eqb}
use Rattle.limits.specs.Limits.{name_limit}
use Rattle.limits.specs.Refusals.{number_in}
use Rattle.spans.specs.Span.{read_span, overwrite}
use Rattle.spans.proofs.Laws.{length-overwrite, overwrite-append, read_written}
use Rattle.fastcmp.proofs.Laws.{equal_long}
use Rattle.entries.specs.Log.{Entry, joined_on, joined_in}
use Rattle.entries.specs.Form.{encoded, entry_size, encoded_all, entries_of}
use Rattle.entries.proofs.Laws.{length-encoded, encoded-more, all_more, read_back}
use Rattle.std.specs.Prelude.{Ok, Err}
use Rattle.limits.specs.declared.Refusal.TheVariants.{NotWhole, NameTooLong, NoName, BufferFull}
use Rattle.flat_store.specs.Calls.{Out, out, has_room, append_of, held_by, held_in, held_of}
use Rattle.flat_store.specs.Said.{said_appended}
use Rattle.flat_store.specs.History.{Flat, flat, is_accepted, left, after, play, logged, log_of, AllNamed}
use Rattle.flat_store.specs.History.{Holds, due, number_of, held_due}
use Rattle.flat_store.proofs.Calls.{room_facts, Taken, append_any, held_3, held-nameless, held-named}

-- ---- the buffer

pub holds-start : (lent : List ℕ) → Holds lent (flat lent 0) []
unfolding encoded_all overwrite
holds-start lent = record { counted = refl; written = refl; inside = omega arith; fit = tt; named = tt }

named_more : (es : List Entry) (e : Entry) → AllNamed es → 0 < length e.name → AllNamed (es ++ (e ∷ []))
named_more [] e A h = (h, tt)
named_more (x ∷ es) e A h = (A.0, named_more es e A.1 h)

-- and then the empty name comes to nothing
nameless : (name : List ℕ) → length name ≤ 0 → (es : List Entry) → AllNamed es → joined_in name es none ≡ none
unfolding joined_in
nameless name z [] A = refl
nameless name z (e ∷ es) A =
    ap (λ (t : Bool). joined_in name es (cond t (joined_on none e.bytes) none))
    (equal_long name e.name (λ (q : length name ≡ length e.name). omega (arith, A.0)))
    ∙ nameless name z es A.1

module _ (lent : List ℕ) (f : Flat) (log : List Entry) (H : Holds lent f log) where
  same_size : length f.buffer ≡ length lent
  same_size = ap length H.written ∙ length-overwrite 0 (encoded_all log) lent

  pub holds-inside : f.used ≤ length f.buffer
  holds-inside = omega (arith, H.inside, same_size)

  -- the used run is the log's entries
  run : read_span 0 f.used f.buffer ≡ encoded_all log
  run =
      ap (λ (k : ℕ). read_span 0 k f.buffer) H.counted
      ∙ ap (read_span 0 (length (encoded_all log))) H.written
      ∙ read_written 0 (encoded_all log) lent (omega (arith, H.inside, H.counted))

  -- one entry more
  holds-took : (e : Entry) → Taken f.buffer f.used e.name e.bytes
      → Holds lent (flat (overwrite f.used (encoded e) f.buffer) (f.used + entry_size e.name e.bytes))
      (log ++ (e ∷ []))
  holds-took e T =
      let R = room_facts (length f.buffer) f.used (length e.name) (length e.bytes) T.room in
      let front : 0 + length (encoded_all log) ≡ f.used = omega (arith, H.counted) in
      record {
        counted =
            ap (λ (k : ℕ). f.used + k) (sym (length-encoded e))
            ∙ ap (λ (k : ℕ). k + length (encoded e)) H.counted
            ∙ sym (length-append (encoded_all log) (encoded e)) ∙ ap length (sym (encoded-more log e));
        written =
            ap (overwrite f.used (encoded e)) H.written
            ∙ ap (λ (k : ℕ). overwrite k (encoded e) (overwrite 0 (encoded_all log) lent)) (sym front)
            ∙ sym (overwrite-append 0 (encoded_all log) (encoded e) lent)
            ∙ ap (λ (bs : List ℕ). overwrite 0 bs lent) (sym (encoded-more log e));
        inside = omega (arith, R.1, same_size);
        fit = all_more log e H.fit (record { short = T.short; counted = R.0 });
        named = named_more log e H.named T.named;
      }

  same_log : Holds lent f (log ++ [])
  same_log = subst (Holds lent f) (sym (append-nil log)) H

  pub holds_after : (e : Entry) → Holds lent (after e f) (log ++ logged e f)
  holds_after e =
      append_any f.buffer f.used e.name e.bytes
      (λ o. Holds lent (left o f.used) (log ++ cond (is_accepted o.answer) (e ∷ []) []))
      same_log same_log same_log same_log (holds-took e)

  -- ---- the numbers

  pub number_due : (e : Entry) → number_of f e ≡ due (length lent) log e
  unfolding append_of due
  number_due e =
      ap (λ (t : Bool). number_in (said_appended (tree t (short e) (named e) (room e)).answer))
      (le-leb f.used (length f.buffer) holds-inside)
      ∙ go (short e) (named e) (room e)
      ∙ ap (λ (t : Bool). cond (short e) (cond (named e) (cond t 0 14) 13) 3)
      (ap (λ (k : ℕ). has_room k f.used (length e.name) (length e.bytes)) same_size
      ∙ ap (λ (k : ℕ). has_room (length lent) k (length e.name) (length e.bytes)) H.counted)
    where
      short : Entry → Bool
      short e = leb (length e.name) name_limit

      named : Entry → Bool
      named e = ltb 0 (length e.name)

      room : Entry → Bool
      room e = has_room (length f.buffer) f.used (length e.name) (length e.bytes)

      tree : Bool → Bool → Bool → Bool → Out
      tree a b c d =
          cond a (cond b (cond c (cond d
          (out (Ok (f.used + entry_size e.name e.bytes)) (overwrite f.used (encoded e) f.buffer))
          (out (Err BufferFull) f.buffer)) (out (Err NoName) f.buffer)) (out (Err NameTooLong) f.buffer))
          (out (Err NotWhole) f.buffer)

      go : (b c d : Bool)
          → number_in (said_appended (tree true b c d).answer) ≡ cond b (cond c (cond d 0 14) 13) 3
      go true true true = refl
      go true true false = refl
      go true false d = refl
      go false c d = refl

  -- ---- what a name comes to

  pub held-log : (name : List ℕ)
      → held_of f.buffer f.used name ≡ held_due name (joined_in name log none)
  held-log name = go (leb (length name) name_limit) refl
    where
      short : (t : Bool) → leb (length name) 0 ≡ t → length name ≤ name_limit
          → held_of f.buffer f.used name ≡ held_by (joined_in name log none)
      short true q k =
          held-nameless f.buffer f.used name holds-inside (leb-true _ _ q)
          ∙ sym (ap held_by (nameless name (leb-true _ _ q) log H.named))
      short false q k =
          held-named f.buffer f.used name holds-inside k (leb-false _ _ q)
          ∙ ap (λ (r : List ℕ). held_in name f.used (entries_of r)) run
          ∙ ap (held_in name f.used) (read_back log H.fit)
          ∙ rw (eq-eqb (length (encoded_all log)) f.used (sym H.counted))

      go : (t : Bool) → leb (length name) name_limit ≡ t
          → held_of f.buffer f.used name ≡ held_due name (joined_in name log none)
      go true q = short (leb (length name) 0) refl (leb-true _ _ q) ∙ rw q
      go false q = held_3 f.buffer f.used name holds-inside (leb-false _ _ q) ∙ rw q

-- ---- histories

pub holds-played : (lent : List ℕ) (tries : List Entry) (f : Flat) (log : List Entry) → Holds lent f log
    → Holds lent (play tries f) (log ++ log_of tries f)
unfolding play log_of
holds-played lent [] f log H = same_log lent f log H
holds-played lent (e ∷ tries) f log H =
    subst (Holds lent (play tries (after e f))) (append_assoc log (logged e f) (log_of tries (after e f)))
    (holds-played lent tries (after e f) (log ++ logged e f) (holds_after lent f log H e))

pub play-more : (xs ys : List Entry) (f : Flat) → play (xs ++ ys) f ≡ play ys (play xs f)
unfolding play
play-more [] ys f = refl
play-more (e ∷ xs) ys f = play-more xs ys (after e f)

pub log-more : (xs ys : List Entry) (f : Flat) → log_of (xs ++ ys) f ≡ log_of xs f ++ log_of ys (play xs f)
unfolding log_of play
log-more [] ys f = refl
log-more (e ∷ xs) ys f =
    ap (λ (log : List Entry). logged e f ++ log) (log-more xs ys (after e f))
    ∙ sym (append_assoc (logged e f) (log_of xs (after e f)) (log_of ys (play xs (after e f))))

pub refused_same : (f : Flat) (e : Entry) → number_of f e ≢ 0 → after e f ≡ f
refused_same f e =
    append_any f.buffer f.used e.name e.bytes
    (λ o. number_in (said_appended o.answer) ≢ 0 → left o f.used ≡ f) (λ g. refl) (λ g. refl) (λ g. refl)
    (λ g. refl) (λ T g. absurd (g refl))
