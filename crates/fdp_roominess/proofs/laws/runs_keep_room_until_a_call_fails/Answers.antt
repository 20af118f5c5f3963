use Rattle.std.proofs.Common.{refl}
use Rattle.fdp_roominess.proofs.Runs.{keeps-begun, keeps-failed, keeps-starved, keeps-well}
use Rattle.fdp_roominess.proofs.laws.runs_keep_room_until_a_call_fails.Goals as goal

pub returns-clause-begun : goal.returns-clause-begun
returns-clause-begun c = keeps-begun

pub returns-clause-well : goal.returns-clause-well
returns-clause-well c = λ handed old now told b new es longer up was. keeps-well handed old now told told b new es longer refl up was

pub returns-clause-failed : goal.returns-clause-failed
returns-clause-failed c = λ handed old now told b new es longer up was. keeps-failed handed old now told told b new es longer refl up was

pub returns-clause-worn : goal.returns-clause-worn
returns-clause-worn c = λ handed old now told b new es longer up was. keeps-starved handed old now told told b new es longer refl up was
