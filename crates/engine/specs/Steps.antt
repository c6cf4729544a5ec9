-- The steps of a run along a course. No clause of a public call speaks of them.
use Rattle.std.specs.Prelude.{◌≡◌, ◌⊎◌, Err}
use Rattle.cyc_port.specs.Seen.{Seen, Later}
use Rattle.engine.specs.declared.faults.Fault.{Fault}
use Rattle.engine.specs.declared.faults.Fault.TheVariants.{Memory}
use Rattle.engine.specs.Answers.{Answer}
use Rattle.engine.specs.Courses.{Course, Comes}

-- memory was wanting, or the answer comes along the course
abbrev pub MayEnd : Seen → Seen → Course → Answer → Type 0
MayEnd before now course answer = (answer ≡ Err Memory) ⊎ Comes before now course answer

-- the run has come from the course to its rest
pub record Reaches (before now : Seen) (course rest : Course) : Type 0 where
  pub go : (end : Seen) → Later now end → (answer : Answer) → Comes now end rest answer → Comes before end course answer

-- a way to go on with a value has been gone, and gave the value
pub record Passes {A : Type 0} (before now : Seen) (way : (A → Course) → Course) (value : A) : Type 0 where
  pub to : (next : A → Course) → Reaches before now (way next) (next value)

-- a way was not gone to its end
pub record Stops {A : Type 0} (before now : Seen) (way : (A → Course) → Course) (fault : Fault) : Type 0 where
  pub at : (next : A → Course) → MayEnd before now (way next) (Err fault)
