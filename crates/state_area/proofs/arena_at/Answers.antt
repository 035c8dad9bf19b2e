-- Each number from its place. Assumes nothing.
use Rattle.state_area.proofs.arena_at.Goals as goal

pub returns : goal.returns
returns c =
    λ i. record {
      page = c.get_u32-page.ensures i;
      used = c.get_u32-used.ensures i;
      size = c.get_u32-size.ensures i;
    }
