use Rattle.std.proofs.Common.{◌≡◌, ◌-◌, [], Some, arith, drop, get_or, length, refl, subst, take}
use Rattle.std.specs.Prelude.{slice_get}
use Rattle.std.proofs.lemmas.List.{length-drop, take_all}
use Rattle.std.proofs.lemmas.Option.{slice_get-get_or}
use Rattle.fdp_base.specs.declared.entry.Copied.{Copied}
use Rattle.fdp_keeper.specs.Moves.{AreSecondPages}
use Rattle.fdp_keeper.proofs.Numbers.{both-runs, empty-has}
use Rattle.fdp_keeper.proofs.targets.new_pages.Goals as goal

pub returns : goal.returns
returns c =
    let copies = c.args.copies.now in
    let n = c.put_new-count.result in
    let first : Copied = get_or copies 0 (record { from = record { unit = 0; page = 0 }; to = record { unit = 0; page = 0 } }) in
    let is : slice_get copies 0 ≡ Some first = slice_get-get_or copies 0 _ c.requires.some in
    let all : take (length copies - n) (drop n copies) ≡ drop n copies = take_all (length copies - n) (drop n copies) (omega (arith, length-drop n copies)) in
    both-runs _ n c.put_new-count.new.set c.last_pages-second.result copies first is refl (c.put_new-count.ensures.some first is refl (omega arith)) c.put_new-count.ensures.order (c.put_new-count.ensures.set [] empty-has)
    (subst (AreSecondPages c.last_pages-second.result) all c.last_pages-second.ensures)
