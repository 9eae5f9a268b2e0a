pub mod EventLists
