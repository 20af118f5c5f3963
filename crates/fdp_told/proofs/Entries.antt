-- The entries of a legal history are told.
use Rattle.std.proofs.Common.{suc, true, List, [], ◌∷◌, ◌++◌, arith}
use Rattle.std.specs.List.{All}
use Rattle.std.proofs.lemmas.List.Elements.{All-cons, All-nil}
use Rattle.fdp_base.specs.declared.config.DriveConfig.{DriveConfig}
use Rattle.fdp_base.specs.declared.entry.Entry.{Entry}
use Rattle.fdp_base.specs.declared.entry.Entry.TheVariants as entries
use Rattle.fdp_base.specs.Config.{IsValidConfig}
use Rattle.fdp_history.specs.Orderly.{IsOrderly}
use Rattle.fdp_history.proofs.Histories.{orderly-legal}
use Rattle.fdp_prints.specs.Told.{IsTold}
use Rattle.fdp_ranges.specs.Ranged.{IsRanged}
use Rattle.fdp_rules.specs.History.{fresh, point_of}
use Rattle.fdp_rules.specs.Legal.{IsLegal, IsLegalAfter}
use Rattle.fdp_rules.specs.Step.{Follows, IsStep}
use Rattle.fdp_rules.proofs.Pushes.{legal-push}
use Rattle.fdp_told.specs.Given.{HasGiven}
use Rattle.fdp_told.proofs.Replies.{fit-host}

told-entry : (c : DriveConfig) (before : List Entry) (e : Entry) → IsOrderly c (point_of c (fresh c) before) → IsStep true c (fresh c) before e → IsRanged e → HasGiven c.block e → IsTold c e
unfolding Follows
told-entry c before (entries.Host h) orderly step ranged given =
    let fit = fit-host true c (point_of c (fresh c) before) h.queue h.number h.command h.reply h.moment orderly step in
    record {
      queue = ranged.queue;
      number = ranged.number;
      moment = ranged.moment;
      command = given;
      reply = record { sct = omega (arith, fit.sct); sc = omega (arith, ranged.sc); dw0 = ranged.dw0; bytes = ranged.bytes; size = fit.size };
    }
told-entry c before (entries.Started s) orderly step ranged given = record { queue = ranged.queue; number = ranged.number; rg = ranged.rg; ruh = ranged.ruh; command = given }
told-entry c before (entries.Placed p) orderly step ranged given = ranged
told-entry c before (entries.Copied x) orderly step ranged given = ranged
told-entry c before (entries.Moved m) orderly step ranged given = ranged
told-entry c before (entries.Erased e) orderly step ranged given = ranged
told-entry c before (entries.Retired r) orderly step ranged given = ranged
told-entry c before (entries.Aside a) orderly step ranged given = ranged
told-entry c before (entries.Shut s) orderly step ranged given = ranged
told-entry c before (entries.Worn w) orderly step ranged given = ranged
told-entry c before entries.Reopened orderly step ranged given = tt

told-after : (c : DriveConfig) (before es : List Entry) → IsValidConfig c → IsLegal true c (fresh c) before → IsLegalAfter true c (fresh c) before es → All IsRanged es → All (HasGiven c.block) es → All (IsTold c) es
unfolding IsLegalAfter
told-after c before [] valid legal after ranged given = All-nil (IsTold c)
told-after c before (e ∷ es) valid legal after ranged given =
    All-cons (IsTold c) e es
    (told-entry c before e (orderly-legal true c before valid legal) after.0 (ranged 0 e (omega arith)) (given 0 e (omega arith)))
    (told-after c (before ++ e ∷ []) es valid (legal-push true c (fresh c) before e legal after.0) after.1 (λ i d low. ranged (suc i) d (omega (arith, low))) (λ i d low. given (suc i) d (omega (arith, low))))

pub told-legal : (c : DriveConfig) (es : List Entry) → IsValidConfig c → IsLegal true c (fresh c) es → All IsRanged es → All (HasGiven c.block) es → All (IsTold c) es
unfolding IsLegalAfter
told-legal c es valid legal ranged given = told-after c [] es valid tt legal ranged given
