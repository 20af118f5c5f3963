use Rattle.std.proofs.Common.{◌≡◌, Bool, true, false, ◌∙◌, ap, sym}
use Rattle.std.specs.Prelude.{if◌then◌else◌}
use Rattle.std.specs.List.{list_any}
use Rattle.fdp_rules.specs.LogPages.{gives_handle, lists_handle}
use Rattle.fdp_rules.specs.Room.{namespace_ids}
use Rattle.fdp_tables.specs.State.{plain_of}
use Rattle.fdp_commands.proofs.Summing.{namespace_ids_are}
use Rattle.fdp_plain_answers.proofs.pages.usage_of.Goals as goal

pub returns-then-is_given : goal.returns-then-is_given
returns-then-is_given c =
    let s = plain_of c.args.kept.now in
    let listed : Bool = list_any (lists_handle s c.args.ruh) namespace_ids in
    let given : list_any (gives_handle s c.args.ruh) namespace_ids ≡ true = ap (list_any (gives_handle s c.args.ruh)) namespace_ids_are ∙ sym c.is_given.ensures ∙ c.if-is_given.true in
    sym (ap (λ (b : Bool). if b then 1 else if listed then 2 else 0) given)

pub returns-then-is_listed : goal.returns-then-is_listed
returns-then-is_listed c =
    let s = plain_of c.args.kept.now in
    let given : list_any (gives_handle s c.args.ruh) namespace_ids ≡ false = ap (list_any (gives_handle s c.args.ruh)) namespace_ids_are ∙ sym c.is_given.ensures ∙ c.if-is_given.false in
    let listed : list_any (lists_handle s c.args.ruh) namespace_ids ≡ true = ap (list_any (lists_handle s c.args.ruh)) namespace_ids_are ∙ sym c.is_listed.ensures ∙ c.if-is_listed.true in
    sym (ap (λ (b : Bool). if b then 1 else if list_any (lists_handle s c.args.ruh) namespace_ids then 2 else 0) given ∙ ap (λ (b : Bool). if b then 2 else 0) listed)

pub returns-else-is_listed : goal.returns-else-is_listed
returns-else-is_listed c =
    let s = plain_of c.args.kept.now in
    let given : list_any (gives_handle s c.args.ruh) namespace_ids ≡ false = ap (list_any (gives_handle s c.args.ruh)) namespace_ids_are ∙ sym c.is_given.ensures ∙ c.if-is_given.false in
    let listed : list_any (lists_handle s c.args.ruh) namespace_ids ≡ false = ap (list_any (lists_handle s c.args.ruh)) namespace_ids_are ∙ sym c.is_listed.ensures ∙ c.if-is_listed.false in
    sym (ap (λ (b : Bool). if b then 1 else if list_any (lists_handle s c.args.ruh) namespace_ids then 2 else 0) given ∙ ap (λ (b : Bool). if b then 2 else 0) listed)
