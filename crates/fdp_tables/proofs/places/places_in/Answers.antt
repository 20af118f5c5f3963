use Rattle.std.proofs.Common.{◌≡◌, ◌<◌, ℕ, subst, sym}
use Rattle.std.specs.Prelude.{IsTrue}
use Rattle.fdp_tables.specs.Index.{is_listed}
use Rattle.fdp_tables.proofs.Naming.{both_kinds, if_ok, row_within}
use Rattle.fdp_tables.proofs.places.places_in.Goals as goal

pub returns-then-branch-2 : goal.returns-then-branch-2
returns-then-branch-2 c =
    both_kinds c.args.kept.now (λ spot. spot.unit ≡ c.args.unit) c.args.blocks.now c.push_standing-then-branch.new.into.items
    (λ place b there stands. c.in_ok-push_standing-2.ensures.kept place (c.in_ok-push_standing.ensures.listed c.if-branch.true place b there stands)) (c.in_ok-push_standing-2.ensures.listed c.if-branch-2.true)

pub returns-else-branch : goal.returns-else-branch
returns-else-branch c =
    if_ok _ _ c.all_places.result (λ places (all : (place : ℕ) → place < c.len.result → IsTrue (is_listed place places.items)) place b there stands. all place (subst (λ n. place < n) (sym c.len.ensures) (row_within c.args.blocks.now place b there))) c.all_places.ensures
