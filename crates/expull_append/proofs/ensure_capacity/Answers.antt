-- Nothing is taken where bytes remain; else the plan has room for a block. Assumes nothing.
use Rattle.std.proofs.Common.{◌≡◌, ℕ, ◌+◌, sym, ap, ◌∙◌, arith, length}
use Rattle.std.proofs.Math.Option.{some}
use Rattle.expull_append.proofs.Laws.{tail_in, ready-kept}
use Rattle.expull_append.proofs.Loops.{waiting_room, block_taken}
use Rattle.expull_append.specs.Append.{writing, next_wide, header_with}
use Rattle.memory_arena.proofs.Laws.{sensible_wide}
use Rattle.memory_arena.specs.Pages.{room_for}
use Rattle.limits.specs.Limits.{link_size}
use Rattle.expull_append.proofs.ensure_capacity.Goals as goal
use Rattle.expull_append.proofs.ensure_capacity.Goals.{After-find_room}

found : (c : After-find_room) → c.find_room.result ≡ room_for c.args.w.arena (length c.args.lists.now) (next_wide
    c.args.w.header)
found c =
    let a = c.args in c.find_room.ensures ∙ ap (λ (n : ℕ). room_for a.w.arena (length a.lists.now) (n + link_size))
    c.get_block_size-size.ensures.0

pub returns-then-h-ne0 : goal.returns-then-h-ne0
returns-then-h-ne0 c =
    sym (ready-kept (writing c.args.lists.now c.args.w.arena c.args.w.header) (omega (arith, c.if-h-ne0.true)))

pub find_room-requires : goal.find_room-requires
find_room-requires c = (omega arith, (omega (arith, sensible_wide _ _ c.requires.0), c.requires.0))

pub unwrap-room-requires : goal.unwrap-room-requires
unwrap-room-requires c =
    waiting_room (length c.args.lists.now) c.args.w.arena c.args.w.header c.find_room.result
    c.if-h-ne0.false (found (goal.at.unwrap-room-requires c).After-find_room) c.requires.1.1.1

pub put_link-head-requires : goal.put_link-head-requires
put_link-head-requires c =
    λ n. omega (arith, tail_in c.args.w.arena (length c.args.lists.now) c.args.w.header c.requires.0 c.requires.1.0 n)

pub returns : goal.returns
unfolding header_with
returns c =
    let w = (writing c.args.lists.now c.args.w.arena c.args.w.header) in (λ i. some (record {
      memory =
          c.put_link-head.ensures.1 i;
      arena = c.unwrap-room.result.after;
      header = record {
        number = w.header.number + 1;
        head =
            c.put_link-head.ensures.0 i;
        tail = c.unwrap-room.result.at;
        remaining = c.get_block_size-size.ensures.0 i;
      };
    })) ∙ sym
    (block_taken w c.if-h-ne0.false (found (goal.at.returns c).After-find_room) c.unwrap-room.ensures)
