use Rattle.std.proofs.Common.{refl, ◌≤◌, ℕ, arith}
use Rattle.jq_pages.proofs.Parts.{keeps_input_room, keeps_room, room_only}
use Rattle.jq_pages.proofs.rooms.reserve_in.Goals as goal

pub returns-in_err-reserve-clause-same : goal.returns-in_err-reserve-clause-same
returns-in_err-reserve-clause-same g c = room_only c.args.pages.now.items c.args.j c.index_mut-page.result.now _ c.requires c.index_mut-page.ensures.value c.reserve.ensures.items refl refl

pub returns-clause-same : goal.returns-clause-same
returns-clause-same g c = room_only c.args.pages.now.items c.args.j c.index_mut-page.result.now _ c.requires c.index_mut-page.ensures.value c.reserve.ensures.items c.reserve_one.ensures.items refl

same : (n : ℕ) → n ≤ n
same n = omega arith

pub returns-in_err-reserve-clause-kept : goal.returns-in_err-reserve-clause-kept
returns-in_err-reserve-clause-kept g c = keeps_input_room c.args.pages.now.items c.args.j c.index_mut-page.result.now _ c.index_mut-page.ensures.value c.reserve.ensures.items c.reserve.ensures.capacity

pub returns-clause-kept : goal.returns-clause-kept
returns-clause-kept g c = keeps_input_room c.args.pages.now.items c.args.j c.index_mut-page.result.now _ c.index_mut-page.ensures.value c.reserve.ensures.items c.reserve.ensures.capacity

pub returns-in_err-reserve-clause-kept_both : goal.returns-in_err-reserve-clause-kept_both
returns-in_err-reserve-clause-kept_both g c = keeps_room c.args.pages.now.items c.args.j c.index_mut-page.result.now _ c.index_mut-page.ensures.value c.reserve.ensures.items c.reserve.ensures.capacity refl (same _)

pub returns-clause-kept_both : goal.returns-clause-kept_both
returns-clause-kept_both g c = keeps_room c.args.pages.now.items c.args.j c.index_mut-page.result.now _ c.index_mut-page.ensures.value c.reserve.ensures.items c.reserve.ensures.capacity c.reserve_one.ensures.items c.reserve_one.ensures.capacity
