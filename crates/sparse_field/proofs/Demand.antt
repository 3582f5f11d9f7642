-- DEMAND 3: the ledger theorem of the schedule, for the inputs of sparse fields. specs/Demand has the statements.
use Rattle.schedule.proofs.LedgerTheorem.{ledger_theorem}
use Rattle.schedule.proofs.AfterDrop.{drop_zeros}
use Rattle.schedule.proofs.Budgets.{equal_budgets}
use Rattle.schedule.proofs.FinishedJob.{finished_job, numbered_job}
use Rattle.plans.specs.Sparse.{sparse}
use Rattle.plans.proofs.Lawful.{sparse_laws, long_enough}
use Rattle.plans.proofs.OwnCorners.{own_corners, constant_not_leaf}
use Rattle.sparse_field.specs.Demand.{DemandThree, DropLeavesZeros, EqualBudgets, FinishedField, LeavesNumbered}

pub demand_three : DemandThree
demand_three = ledger_theorem sparse sparse_laws

pub dropped : DropLeavesZeros
dropped = drop_zeros sparse sparse_laws

pub equal_elements : EqualBudgets
equal_elements = equal_budgets sparse sparse_laws

pub finished_field : FinishedField
finished_field cs e none j opened ends = (finished_job sparse sparse_laws long_enough cs e none j opened ends, own_corners j.input)

pub leaves_numbered : LeavesNumbered
leaves_numbered = numbered_job sparse sparse_laws long_enough constant_not_leaf
