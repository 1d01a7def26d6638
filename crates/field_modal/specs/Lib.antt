pub mod ModalKeys
