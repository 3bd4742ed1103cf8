-- The error of work on a stream of timelines, by the fault of its input.
use Rattle.he_inputs.specs.declared.input_fault.InputFault.{InputFault}
use Rattle.he_inputs.specs.declared.input_fault.InputFault.TheVariants as inputs
use Rattle.he_inputs.specs.declared.stream_fault.StreamFault.{StreamFault}
use Rattle.he_inputs.specs.declared.stream_fault.StreamFault.TheVariants.{Text, Read, Memory}
use Rattle.he_inputs.specs.declared.race_reader.RaceReaderFault.{RaceReaderFault}
use Rattle.he_inputs.specs.declared.race_reader.RaceReaderFault.TheVariants as readers

abbrev pub fault_of_input : InputFault → StreamFault
fault_of_input (inputs.Text fault) = Text fault
fault_of_input inputs.Read = Read

abbrev pub fault_of_reader : RaceReaderFault → StreamFault
fault_of_reader (readers.Input fault) = fault_of_input fault
fault_of_reader readers.Memory = Memory
