-- What becomes of a body that is read and judged series by series.
use Rattle.rw_write_request.specs.declared.fault.WireFault.{WireFault}
use Rattle.rw_write_request.specs.declared.fault.WireFault.TheVariants.{OutOfMemory, Truncated, VarintTooBig, WrongWire, BadWire, FieldZero, NotUtf8}
use Rattle.rw_head.specs.declared.verdict.Verdict.{Verdict}
use Rattle.rw_head.specs.declared.verdict.Verdict.TheVariants.{BadBody, NoMemory}

-- bytes that are not a message are bad, if memory suffices
abbrev pub verdict_of : WireFault → Verdict
verdict_of OutOfMemory = NoMemory
verdict_of Truncated = BadBody
verdict_of VarintTooBig = BadBody
verdict_of WrongWire = BadBody
verdict_of BadWire = BadBody
verdict_of FieldZero = BadBody
verdict_of NotUtf8 = BadBody
