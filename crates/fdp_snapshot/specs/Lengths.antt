-- How long the rows of a checkpoint are.
use Rattle.std.proofs.Common.{◌≡◌, ℕ, ◌≤◌, Bool, true, false, List, length, take, Option, Some, None, refl, arith, lit≤}
use Rattle.std.specs.Prelude.{◌==◌}
use Rattle.std.proofs.lemmas.List.{length-take}
use Rattle.fdp_base.specs.declared.event.Event.{Event}
use Rattle.fdp_base.specs.EventCodes.{kind_code}
use Rattle.fdp_rules.specs.LogPages.{event_bytes}
use Rattle.fdp_records.proofs.Laying.{Ascends, length-laid}
use Rattle.fdp_snapshot.specs.declared.space.Space.{Space}
use Rattle.fdp_snapshot.specs.Rows.{space_bytes, space_pieces, zeros}

length-take-most : (n : ℕ) (xs : List ℕ) → length (take n xs) ≤ n
length-take-most n xs = rw length-take (grind arith)

pub space_ascends : (x : Space) → Ascends 0 40 (space_pieces x)
unfolding Ascends
space_ascends x =
    let most = length-take-most 16 x.handles in
    (lit≤ tt, (lit≤ tt, (lit≤ tt, (lit≤ tt, (lit≤ tt, omega arith)))))

pub space_long : (x : Option Space) → length (space_bytes x) ≡ 40
unfolding space_bytes
space_long None = refl
space_long (Some x) = length-laid 0 40 (space_pieces x) (zeros 40) refl (space_ascends x)

pub event_long : (e : Event) → length (event_bytes e) ≡ 64
event_long e = of_test (kind_code e.kind == 0x80) refl where
  of_test : (b : Bool) → (kind_code e.kind == 0x80) ≡ b → length (event_bytes e) ≡ 64
  of_test true is = rw is refl
  of_test false is = rw is refl
