-- The chunk is put, and the header that goes with it. Assumes nothing.
use Prim.Native.Nat.{ℕ, ◌+◌, ◌≤◌}
use mathlib.Core.Path.{◌≡◌, sym, ap, subst, ◌∙◌}
use lib.ListN.{length}
use Rattle.limits.specs.Limits.{arena_limit}
use Rattle.spans.specs.Span.{overwrite}
use Rattle.expull_header.specs.declared.Header.{Header}
use Rattle.expull_header.specs.Header.{header_at, header_bytes}
use Rattle.expull_append.specs.Append.{Writing, writing, filled}
use Rattle.records.specs.Record.{header_of}
use Rattle.store_quick.proofs.Shortcut.{quick-fits}
use Rattle.store_quick.proofs.write_quick.Goals as goal
use Rattle.store_quick.proofs.write_quick.Goals.{After-get_header-h}

-- the header that was read is the record's
header_is : (c : After-get_header-h) → c.get_header-h.result ≡ header_of c.args.keys.now c.args.at
header_is c = c.get_header-h.ensures.0 ∙ ap (λ (p : ℕ). header_at p c.args.keys.now) c.value_place-place.ensures

pub put_chunk-list-requires : goal.put_chunk-list-requires
put_chunk-list-requires c =
    let f = quick-fits c.args.st c.args.keys.now c.args.lists.now c.args.at (length c.args.bytes.now)
    c.requires.lists_value.0 c.requires.quick in subst (λ (h : Header). (length c.args.bytes.now ≤ h.remaining) ×
    ((h.tail + length c.args.bytes.now ≤ length c.args.lists.now) × (length c.args.lists.now ≤ arena_limit))) (sym
    (header_is (goal.at.put_chunk-list-requires c).After-get_header-h)) (c.requires.quick.fits, (f.inside, f.short))

pub returns : goal.returns
returns c =
    let w = c.put_chunk-list.ensures ∙ ap (λ (h : Header). filled c.args.bytes.now (writing c.args.lists.now
    c.args.st.list_arena h)) (header_is (goal.at.returns c).After-get_header-h) in (
      c.put_header.ensures ∙ (λ i.
          overwrite (c.value_place-place.ensures i) (header_bytes (w i).header) c.args.keys.now),
      ap (λ (v : Writing).
          v.memory) w,
    )
