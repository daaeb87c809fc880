use Rattle.service_table.proofs.Table.{services_keep, states_keep, statuses_keep, payload_is_of_the_answering, payload_needs_a_role, cryptographic_by_number, cryptographic_needs_a_role, cryptographic_is_approved, other_is_not_approved, short_mac_is_not_approved, no_mac_no_length, each_is_permitted, parameters_are_the_officers, entry_goes_on_in_entry, keys_are_the_users, status_is_shown, cryptographic_is_tested, digests_are_tested, macs_are_tested, off_permits, init_permits, self_test_permits, approved_permits, error_permits}
use Rattle.service_table.proofs.Table.{wrapping_is_the_officers, wrapping_is_one_way, generator_is_the_officers, others_are_tested, officer_permits, user_permits, entry_permits, each_answers_these, tests_fail_where_done, noise_fails_where_drawn, keys_are_refused, domains_are_kept, full_slots_are_refused, export_is_refused, lengths_are_refused, forgeries_are_refused, slotless_say_nothing_of_slots, failures_have_their_codes, failures_are_told}
use Rattle.service_table.proofs.laws.table_laws.Goals as goal

pub returns-clause-services : goal.returns-clause-services
returns-clause-services c = services_keep

pub returns-clause-states : goal.returns-clause-states
returns-clause-states c = states_keep

pub returns-clause-statuses : goal.returns-clause-statuses
returns-clause-statuses c = statuses_keep

pub returns-clause-answering : goal.returns-clause-answering
returns-clause-answering c = payload_is_of_the_answering

pub returns-clause-payload : goal.returns-clause-payload
returns-clause-payload c = payload_needs_a_role

pub returns-clause-cryptographic : goal.returns-clause-cryptographic
returns-clause-cryptographic c = cryptographic_by_number

pub returns-clause-in_roles : goal.returns-clause-in_roles
returns-clause-in_roles c = cryptographic_needs_a_role

pub returns-clause-uses : goal.returns-clause-uses
returns-clause-uses c = cryptographic_is_approved

pub returns-clause-other_uses : goal.returns-clause-other_uses
returns-clause-other_uses c = other_is_not_approved

pub returns-clause-short_macs : goal.returns-clause-short_macs
returns-clause-short_macs c = short_mac_is_not_approved

pub returns-clause-lengths : goal.returns-clause-lengths
returns-clause-lengths c = no_mac_no_length

pub returns-clause-each : goal.returns-clause-each
returns-clause-each c = each_is_permitted

pub returns-clause-officers : goal.returns-clause-officers
returns-clause-officers c = parameters_are_the_officers

pub returns-clause-entry : goal.returns-clause-entry
returns-clause-entry c = entry_goes_on_in_entry

pub returns-clause-users : goal.returns-clause-users
returns-clause-users c = keys_are_the_users

pub returns-clause-shown : goal.returns-clause-shown
returns-clause-shown c = status_is_shown

pub returns-clause-tested : goal.returns-clause-tested
returns-clause-tested c = cryptographic_is_tested

pub returns-clause-digests : goal.returns-clause-digests
returns-clause-digests c = digests_are_tested

pub returns-clause-macs : goal.returns-clause-macs
returns-clause-macs c = macs_are_tested

pub returns-clause-off : goal.returns-clause-off
returns-clause-off c = off_permits

pub returns-clause-init : goal.returns-clause-init
returns-clause-init c = init_permits

pub returns-clause-self_test : goal.returns-clause-self_test
returns-clause-self_test c = self_test_permits

pub returns-clause-approved : goal.returns-clause-approved
returns-clause-approved c = approved_permits

pub returns-clause-error : goal.returns-clause-error
returns-clause-error c = error_permits

pub returns-clause-wrapping : goal.returns-clause-wrapping
returns-clause-wrapping c = wrapping_is_the_officers

pub returns-clause-one_way : goal.returns-clause-one_way
returns-clause-one_way c = wrapping_is_one_way

pub returns-clause-generator : goal.returns-clause-generator
returns-clause-generator c = generator_is_the_officers

pub returns-clause-other_tests : goal.returns-clause-other_tests
returns-clause-other_tests c = others_are_tested

pub returns-clause-officer_role : goal.returns-clause-officer_role
returns-clause-officer_role c = officer_permits

pub returns-clause-user_role : goal.returns-clause-user_role
returns-clause-user_role c = user_permits

pub returns-clause-entering : goal.returns-clause-entering
returns-clause-entering c = entry_permits

pub returns-clause-general : goal.returns-clause-general
returns-clause-general c = each_answers_these

pub returns-clause-failed_tests : goal.returns-clause-failed_tests
returns-clause-failed_tests c = tests_fail_where_done

pub returns-clause-failed_noise : goal.returns-clause-failed_noise
returns-clause-failed_noise c = noise_fails_where_drawn

pub returns-clause-refused_keys : goal.returns-clause-refused_keys
returns-clause-refused_keys c = keys_are_refused

pub returns-clause-domains : goal.returns-clause-domains
returns-clause-domains c = domains_are_kept

pub returns-clause-full_slots : goal.returns-clause-full_slots
returns-clause-full_slots c = full_slots_are_refused

pub returns-clause-exports : goal.returns-clause-exports
returns-clause-exports c = export_is_refused

pub returns-clause-wrong_lengths : goal.returns-clause-wrong_lengths
returns-clause-wrong_lengths c = lengths_are_refused

pub returns-clause-forgeries : goal.returns-clause-forgeries
returns-clause-forgeries c = forgeries_are_refused

pub returns-clause-slotless : goal.returns-clause-slotless
returns-clause-slotless c = slotless_say_nothing_of_slots

pub returns-clause-failures : goal.returns-clause-failures
returns-clause-failures c = failures_have_their_codes

pub returns-clause-told : goal.returns-clause-told
returns-clause-told c = failures_are_told
