-- Why a follower's store wasn't made or opened, or a frame not stored.
use Rattle.text_store.specs.declared.fault.StoreFault.{StoreFault}
use Rattle.text_store.specs.declared.fault.StoreFault.TheVariants as store_fault
use Rattle.follower.specs.declared.fault.FollowFault.{FollowFault}
use Rattle.follower.specs.declared.fault.FollowFault.TheVariants as fault
use Rattle.follower.specs.declared.keep.Unkept.{Unkept}
use Rattle.follower.specs.declared.keep.Unkept.TheVariants as unkept

abbrev pub refusal_of : StoreFault → FollowFault
refusal_of store_fault.DiskFault = fault.Store store_fault.DiskFault
refusal_of (store_fault.NotAStore at) = fault.Store (store_fault.NotAStore at)
refusal_of (store_fault.Newer version) = fault.Store (store_fault.Newer version)
refusal_of (store_fault.Full size limit) = fault.Store (store_fault.Full size limit)
refusal_of (store_fault.Exists len) = fault.Store (store_fault.Exists len)
refusal_of store_fault.Memory = fault.Memory

abbrev pub fault_of : Unkept → FollowFault
fault_of unkept.DiskFault = fault.Store store_fault.DiskFault
fault_of unkept.Memory = fault.Memory
