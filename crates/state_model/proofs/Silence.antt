-- An answer that tells nothing of keys.
use Rattle.std.proofs.Common.{◌≢◌}
use Rattle.service_table.specs.declared.status.Status.{Status}
use Rattle.service_table.specs.declared.status.Status.TheVariants as status
use Rattle.ssp_slots.specs.declared.slot_fault.SlotFault.{SlotFault}
use Rattle.ssp_slots.specs.declared.slot_fault.SlotFault.TheVariants as fault
use Rattle.module_frames.specs.Requests.{CryptographicRequest}
use Rattle.module_frames.specs.Requests as request
use Rattle.crypto_services.specs.AtSlots.{refusal, fault_status}
use Rattle.state_model.specs.Meaning.{Held, MeansTheStandard}

-- it wasn't done, and nothing was found to be false
pub record TellsNothing (reason : Status) : Type 0 where
  pub undone : reason ≢ status.Ok
  pub unchecked : reason ≢ status.AuthFailed
  pub wrapped : reason ≢ status.UnwrapFailed

-- such a refusal means nothing
pub nothing_told : (what : CryptographicRequest) (before after : Held) (reason : Status) → TellsNothing reason → MeansTheStandard what before after (refusal reason)
nothing_told (request.Hash alg text) before after reason silent = λ ok. absurd (silent.undone ok)
nothing_told (request.Mac slot alg mac_length text) before after reason silent = λ ok. absurd (silent.undone ok)
nothing_told (request.MacVerify slot alg tag text) before after reason silent = (λ ok. absurd (silent.undone ok), λ failed. absurd (silent.unchecked failed))
nothing_told (request.Seal slot tag_length aad text) before after reason silent = λ ok. absurd (silent.undone ok)
nothing_told (request.SealIv slot tag_length iv aad text) before after reason silent = λ ok. absurd (silent.undone ok)
nothing_told (request.Open slot iv aad text tag) before after reason silent = (λ ok. absurd (silent.undone ok), λ failed. absurd (silent.unchecked failed))
nothing_told (request.Wrap pad kek second) before after reason silent = λ ok. absurd (silent.undone ok)
nothing_told (request.Unwrap pad kek target kind export uses wrapped) before after reason silent = (λ ok. absurd (silent.undone ok), λ failed. absurd (silent.wrapped failed))
nothing_told (request.Derive source target kind export uses long label context) before after reason silent = λ ok. absurd (silent.undone ok)
nothing_told (request.Random long additional) before after reason silent = λ ok. absurd (silent.undone ok)
nothing_told (request.Generate target header long) before after reason silent = λ ok. absurd (silent.undone ok)
nothing_told (request.Reseed additional) before after reason silent = λ ok. absurd (silent.undone ok)

-- a slot's refusal is one
pub silent_fault : (reason : SlotFault) → TellsNothing (fault_status reason)
silent_fault fault.EmptySlot = record { undone = λ e. cc; unchecked = λ e. cc; wrapped = λ e. cc }
silent_fault fault.WrongKind = record { undone = λ e. cc; unchecked = λ e. cc; wrapped = λ e. cc }
silent_fault fault.WrongDomain = record { undone = λ e. cc; unchecked = λ e. cc; wrapped = λ e. cc }
silent_fault fault.Spent = record { undone = λ e. cc; unchecked = λ e. cc; wrapped = λ e. cc }
silent_fault fault.OccupiedSlot = record { undone = λ e. cc; unchecked = λ e. cc; wrapped = λ e. cc }
silent_fault fault.NotExportable = record { undone = λ e. cc; unchecked = λ e. cc; wrapped = λ e. cc }
