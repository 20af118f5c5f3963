-- An entry falls under one rule only.
use Rattle.std.specs.Prelude.{MatchBool}
use Rattle.std.proofs.Common.{◌≡◌, ◌∙◌, ℕ, Bool, true, false, sym, ⊎_elim}
use Rattle.fdp_base.specs.declared.command.Command.{Command}
use Rattle.fdp_base.specs.declared.entry.Entry.{Entry}
use Rattle.fdp_base.specs.declared.entry.Entry.TheVariants as entries
use Rattle.fdp_rules.specs.Change.{is_media_error}
use Rattle.fdp_base.specs.CommandKinds.{is_write}
use Rattle.fdp_rules.specs.PlainState.{PlainState}
use Rattle.fdp_plain_judge.specs.declared.rule.Rule.{Rule}
use Rattle.fdp_plain_judge.specs.declared.rule.Rule.TheVariants as rules
use Rattle.fdp_plain_judge.specs.Rules.{FallsUnder, IsRuleOfWrite}

-- two rules that are one third rule
same : {a b one : Rule} → a ≡ one → b ≡ one → a ≡ b
same x y = x ∙ sym y

one_of_write : (s : PlainState) (queue number : ℕ) (command : Command) (a b : Rule) → IsRuleOfWrite s queue number command a → IsRuleOfWrite s queue number command b → a ≡ b
one_of_write s queue number command a b x y =
    ⊎_elim
    (λ ended. ⊎_elim (λ again. same ended.2 again.2) (λ none. absurd (none.0 ended.0 ended.1)) y)
    (λ none. ⊎_elim (λ ended. absurd (none.0 ended.0 ended.1)) (λ again. same none.1 again.1) y)
    x

one_of_either : (choice : Bool) (P Q : Rule → Type 0) → ((a b : Rule) → P a → P b → a ≡ b) → ((a b : Rule) → Q a → Q b → a ≡ b) → (a b : Rule) → MatchBool choice (P a) (Q a) → MatchBool choice (P b) (Q b) → a ≡ b
one_of_either true P Q p q a b x y = p a b x y
one_of_either false P Q p q a b x y = q a b x y

pub one_rule : (s : PlainState) (entry : Entry) (a b : Rule) → FallsUnder s entry a → FallsUnder s entry b → a ≡ b
one_rule s (entries.Host h) a b x y =
    one_of_either (is_media_error h.reply.status) (λ r. r ≡ rules.MediaError) (λ r. MatchBool (is_write h.command) (IsRuleOfWrite s h.queue h.number h.command r) (r ≡ rules.PlainReply))
    (λ a b x y. same x y)
    (one_of_either (is_write h.command) (IsRuleOfWrite s h.queue h.number h.command) (λ r. r ≡ rules.PlainReply) (one_of_write s h.queue h.number h.command) (λ a b x y. same x y))
    a b x y
one_rule s (entries.Started started) a b x y = same x y
one_rule s (entries.Placed p) a b x y = same x y
one_rule s (entries.Copied c) a b x y = same x y
one_rule s (entries.Moved m) a b x y = same x y
one_rule s (entries.Erased e) a b x y = same x y
one_rule s (entries.Retired r) a b x y = same x y
one_rule s (entries.Aside aside) a b x y = same x y
one_rule s (entries.Shut shut) a b x y = same x y
one_rule s (entries.Worn w) a b x y = same x y
one_rule s entries.Reopened a b x y = same x y
