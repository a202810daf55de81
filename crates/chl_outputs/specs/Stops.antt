-- Why a command has no output where no index was built.
use Rattle.hub_index.specs.declared.build_fault.BuildFault.{BuildFault}
use Rattle.hub_index.specs.declared.build_fault.BuildFault.TheVariants as faults
use Rattle.chl_inputs.specs.declared.stop.Stop.{Stop}
use Rattle.chl_inputs.specs.declared.stop.Stop.TheVariants.{Overflow, NoMemory}

-- at a fault of a build
abbrev pub build_stop : BuildFault → Stop
build_stop (faults.Overflow v hub) = Overflow v hub
build_stop faults.NoMemory = NoMemory
