use Rattle.std.proofs.Common.{◌≡◌, List, [], ap, arith, sym, subst}
use Rattle.fdp_base.specs.declared.config.DriveConfig.{DriveConfig}
use Rattle.fdp_base.specs.declared.entry.Entry.{Entry}
use Rattle.fdp_rules.specs.History.{fresh}
use Rattle.fdp_book.specs.Configured.{fresh_opening}
use Rattle.fdp_book.specs.Held.{IsBook, IsHeld}
use Rattle.fdp_book.specs.Logged.{Logged}
use Rattle.fdp_readings.specs.fdp_locations.Held.{pages_held}
use Rattle.fdp_origin.specs.Opening.{Opening}
use Rattle.fdp_book.proofs.book.Book.fresh.Goals as goal

pub invariant_of-result : goal.invariant_of-result
unfolding fresh
invariant_of-result c =
    let tables = c.in_ok-configured_tables.field-0 in
    let first : c.new.result.entries ≡ [] = ap (λ (l : Logged). l.entries) c.new.ensures in
    let config = c.args.config.now in
    let none : tables.outline.generation ≡ 0 = c.in_ok-configured_tables.ensures.generation in
    let book : IsBook config (fresh_opening config) c.new.result tables = record {
      held = subst (λ (es : List Entry). IsHeld config (fresh config) (pages_held config (fresh_opening config).cells) es tables) (sym first) c.in_ok-configured_tables.ensures.held;
      before_is = ap (λ (l : Logged). l.before) c.new.ensures;
      names_are = ap (λ (l : Logged). l.names) c.new.ensures;
      numbers = record { few = omega (arith, none); fewer = λ low. omega (arith, none) };
    } in
    subst (λ (o : Opening). IsBook c.in_ok-copied.field-0 o c.new.result tables) (sym c.in_ok-fresh_origin.ensures)
    (subst (λ (d : DriveConfig). IsBook d (fresh_opening config) c.new.result tables) (sym c.in_ok-copied.ensures) book)
