-- The bits with which a NaN leaf value is printed (rule T14): one bit pattern for all computed NaNs (rule F7), and what constants, min and
-- max copy keeps its own (rule F8). min and max give a NaN only where both operands are NaN, and then the first. So the bits follow from
-- the model alone.
use Rattle.std.specs.Prelude.{ℕ, zero, suc, ◌-◌, List, [], ◌∷◌, ◌++◌, map, get_or}
use Rattle.model.specs.declared.Part.{Part}
use Rattle.model.specs.declared.Part.TheVariants.{Constant, Sphere, Plane, Min, Max, Add, Sub, Neg}
use Rattle.model.specs.Model.{part_of}
use Rattle.model.specs.Part.{part_in}
use Rattle.job_text.specs.declared.Job.{Job}

-- the bits of a computed NaN (rule F7)
abbrev pub computed_nan : ℕ
computed_nan = 0x7ff8000000000000

-- a part's, from its own pattern and those of the parts before it (rules F7 and F8)
unfoldable pub nan_of : Part → ℕ → List ℕ → ℕ
nan_of (Constant w) pattern earlier = pattern
nan_of (Sphere c r) pattern earlier = computed_nan
nan_of (Plane n d) pattern earlier = computed_nan
nan_of (Min a b) pattern earlier = get_or earlier a computed_nan
nan_of (Max a b) pattern earlier = get_or earlier a computed_nan
nan_of (Add a b) pattern earlier = computed_nan
nan_of (Sub a b) pattern earlier = computed_nan
nan_of (Neg a) pattern earlier = computed_nan

-- those of the first p parts
unfoldable pub nans_to : List Part → List ℕ → ℕ → List ℕ
nans_to parts patterns zero = []
nans_to parts patterns (suc p) =
    let earlier = nans_to parts patterns p in earlier ++ (nan_of (part_of parts p) (get_or patterns p 0) earlier ∷ [])

-- the model's: its last part's
unfoldable pub nan_pattern : List Part → List ℕ → ℕ → ℕ
nan_pattern parts patterns count = get_or (nans_to parts patterns count) (count - 1) computed_nan

-- a job's, for any job (rule T17)
abbrev pub job_nan : Job → ℕ
job_nan j = nan_pattern (map part_in j.input.model.parts) j.patterns j.input.model.count
