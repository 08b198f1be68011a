-- What the faults of parts are told as.
use Rattle.net_front.specs.declared.front.NetRefusal.{NetRefusal}
use Rattle.net_front.specs.declared.front.NetRefusal.TheVariants as net
use Rattle.test_command.specs.declared.fault.TestFault.{TestFault}
use Rattle.test_command.specs.declared.fault.TestFault.TheVariants as fault

abbrev pub test_net_fault : NetRefusal → TestFault
test_net_fault (net.Text at) = fault.NetText at
test_net_fault (net.Fault broken) = fault.Net broken
test_net_fault net.Memory = fault.Memory
