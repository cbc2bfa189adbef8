mod AdditionLemmas
mod AnswerLemmas
mod BatchLemmas
mod CarriedLemmas
pub mod CheckpointLemmas
mod ExampleLemmas
mod KeptExampleLemmas
mod KeptReceiverLemmas
mod KeptWireLemmas
mod LifeExampleLemmas
mod LifeLemmas
mod ListedLemmas
mod LogLemmas
mod OpenExampleLemmas
pub mod OwedLemmas
mod NeverRefusedLemmas
mod PartLemmas
mod PlaceLemmas
mod ReceivedLemmas
mod RefusalLemmas
mod RefusedExampleLemmas
mod RelayLemmas
mod ResumedLemmas
mod RunLemmas
mod RunLifeLemmas
mod SenderLemmas
mod ServedLemmas
mod SeveralSenderLemmas
mod ShardLemmas
mod StoppedLemmas
mod TakenLemmas
mod TurnLemmas
mod WireExampleLemmas
mod WireLemmas
mod WorkerLemmas
pub mod shared
